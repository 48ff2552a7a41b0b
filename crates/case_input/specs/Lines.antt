-- What the lines of a text of cases say: places, numbers and bytes.
use Rattle.std.specs.Prelude.{ℕ, zero, suc, ◌+◌, ◌-◌, ◌*◌, ◌%◌, ◌^◌, cond, ◌&&◌, List, [], ◌∷◌, ◌++◌, length, ◌==◌, nat_le, nat_lt, slice_index, take, drop, position, Option, Some, None, option_and_then, option_map, unwrap_or}
use Rattle.device.specs.declared.Device.{Device}
use Rattle.device.specs.declared.Device.TheVariants.{Fpu, NoFpu}
use Rattle.case_input.specs.declared.Number.{Number}
use Rattle.case_input.specs.declared.Series.{Series}

-- The place of the first such byte, if there is one.
abbrev pub place_of : ℕ → List ℕ → Option ℕ
place_of byte l = position (λ b. b == byte) l

-- What comes after the word of a case, from the first space on.
abbrev pub after_word : List ℕ → List ℕ
after_word line = drop (unwrap_or (place_of 32 line) (length line)) line

-- The device of a case: a word with an n before it names the one without a floating-point unit.
abbrev pub device_of : List ℕ → Device
device_of line = cond (slice_index line 0 == 110) NoFpu Fpu

-- The letter that decides on a case: the first of its line, or the one after an n.
abbrev pub letter_of : List ℕ → ℕ
letter_of line = cond (slice_index line 0 == 110 && nat_lt 1 (length line)) (slice_index line 1) (slice_index line 0)

-- The value of a hex digit in upper case, if it is one.
abbrev pub digit_of : ℕ → Option ℕ
digit_of c = cond (nat_le 48 c && nat_le c 57) (Some (c - 48)) (cond (nat_le 65 c && nat_le c 70) (Some (c - 55)) None)

-- A number by its digits from a place on, after digits of this value: it ends before what is no digit; from 10,000 on it is none.
abbrev pub number_from : ℕ → ℕ → List ℕ → Option Number
number_from value at [] = Some (record { value = value; end = at })
number_from value at (c ∷ l) =
    cond (nat_le 48 c && nat_le c 57)
    (cond (nat_lt 999 value) None (number_from (value * 10 + (c - 48)) (at + 1) l))
    (Some (record { value = value; end = at }))

-- What has no digit is no number.
abbrev pub with_digit : ℕ → Number → Option Number
with_digit from n = cond (n.end == from) None (Some n)

-- The decimal number at a place of a line.
abbrev pub number_at : List ℕ → ℕ → Option Number
number_at line from = option_and_then (with_digit from) (number_from 0 from (drop from line))

-- The room of a case, the decimal number between the first space and a comma, and the place after the comma.
abbrev pub before_comma : List ℕ → Number → Option Number
before_comma line n = cond (slice_index line n.end == 44) (Some (record { value = n.value; end = n.end + 1 })) None

abbrev pub room_of : List ℕ → Option Number
room_of line = option_and_then (λ space. option_and_then (before_comma line) (number_at line (space + 1))) (place_of 32 line)

-- ---- bytes

-- So many bytes, each so much more than the last.
unfoldable pub series : ℕ → ℕ → ℕ → List ℕ
series byte step zero = []
series byte step (suc n) = byte ∷ series ((byte + step) % 2 ^ 8) step n

-- So many bytes from this one on, each so much more than the last.
abbrev pub series_of : ℕ → ℕ → Number → Option Series
series_of byte step n = Some (record { byte = byte; count = n.value; step = step; end = n.end })

-- After a pair of hex digits, *N makes N equal bytes of it, +N makes N bytes that count up from it, and anything else one.
abbrev pub series_by_sign : List ℕ → ℕ → ℕ → Option Series
series_by_sign line byte next =
    cond (slice_index line next == 42) (option_and_then (series_of byte 0) (number_at line (next + 1)))
    (cond (slice_index line next == 43) (option_and_then (series_of byte 1) (number_at line (next + 1)))
    (series_of byte 0 (record { value = 1; end = next })))

-- The series at a place of a line.
abbrev pub series_at : List ℕ → ℕ → Option Series
series_at line at =
    cond (nat_lt (length line) (at + 2)) None
    (option_and_then (λ high. option_and_then (λ low. series_by_sign line (16 * high + low) (at + 2)) (digit_of (slice_index line (at + 1)))) (digit_of (slice_index line at)))

abbrev pub bytes_of : Series → List ℕ
bytes_of s = series s.byte s.step s.count

-- The bytes of a field from a place on, in at most so many series and spaces, if it is well formed.
abbrev pub field_from : ℕ → List ℕ → ℕ → Option (List ℕ)
field_from zero line from = Some []
field_from (suc most) line from =
    cond (nat_le (length line) from) (Some [])
    (cond (slice_index line from == 32) (field_from most line (from + 1))
    (option_and_then (λ s. option_map (λ l. bytes_of s ++ l) (field_from most line s.end)) (series_at line from)))

abbrev pub field : List ℕ → Option (List ℕ)
field line = field_from (length line) line 0

-- How many bytes a field has, where it is well formed and fits a buffer of so many.
abbrev pub length_within : ℕ → List ℕ → Option ℕ
length_within room bytes = cond (nat_lt room (length bytes)) None (Some (length bytes))

abbrev pub field_length : Option (List ℕ) → ℕ → Option ℕ
field_length bytes room = option_and_then (length_within room) bytes

-- A buffer with the bytes of a field at its start.
abbrev pub with_field : Option (List ℕ) → List ℕ → List ℕ
with_field None out = out
with_field (Some bytes) out = bytes ++ drop (length bytes) out

-- The fields before and after the first comma.
abbrev pub first_field : List ℕ → Option (List ℕ)
first_field line = option_and_then (λ comma. field (take comma line)) (place_of 44 line)

abbrev pub second_field : List ℕ → Option (List ℕ)
second_field line = option_and_then (λ comma. field (drop (comma + 1) line)) (place_of 44 line)

abbrev pub pair_lengths : List ℕ → ℕ → ℕ → Option (ℕ × ℕ)
pair_lengths line room more =
    option_and_then (λ n. option_map (λ m. (n, m)) (field_length (second_field line) more)) (field_length (first_field line) room)
