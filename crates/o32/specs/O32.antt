-- Placement rules 3 to 5 and refusals 1, 2, 3 and 5: O32 as a convention.
use Rattle.std.specs.Prelude.{List, [], ◌∷◌, ◌++◌, map, false, cond, not, ◌&&◌, ℕ, ◌+◌, ◌-◌, ◌*◌, max, eqb, leb, ltb}
use Rattle.words.specs.Words.{up}
use Rattle.places.specs.Places.{run}
use Rattle.device.specs.declared.Device.{Device}
use Rattle.device.specs.declared.Device.TheVariants.{Fpu, NoFpu}
use Rattle.kinds.specs.declared.Class.TheVariants.{Unknown, Marker, Float}
use Rattle.kinds.specs.declared.Kind.{Kind}
use Rattle.kinds.specs.Kinds.{kind_of, is}
use Rattle.rules.specs.Rules.{nothing, misplaced, full, argument, extend}
use Rattle.carried.specs.Convention.{Step, refuse, next, Convention}
use Rattle.o32_offsets.specs.Offsets.{extension, width, offset, lay_one}
use Rattle.o32.specs.declared.State.{State}
use Rattle.o32.specs.declared.Placement.{Placement}

-- Rule 3. The floating register of a single or double, or 0. "If the first argument is s or d, it goes to `$f12`. If it is and
-- the second is s or d before any marker, that one goes to `$f14`. .. A return pointer counts as first." Without a floating-point
-- unit (request (ii) of document 02) "no floating register is used".
abbrev pub float_register : Device → State → ℕ
float_register NoFpu st = 0
float_register Fpu st = cond (eqb st.prefix.count 0) 12 (cond (eqb st.prefix.count 1 && st.floating && not st.prefix.marked) 14 0)

-- "No other argument uses these registers."
abbrev pub register : Device → State → Kind → ℕ
register d st k = cond (is Float k) (float_register d st) 0

-- Rule 3, as request (i) of document 02 mends it. The registers that hold a float's bytes, in the order of the bytes. A single
-- is in its register. A double takes the pair, and "the even floating register holds the low half and the odd one the high half":
-- its first four bytes are in the odd register, the next four in the even one. (Document 01's wording, "its first four bytes in
-- the even register, the next four in the odd one", was wrong.)
abbrev pub float_registers : ℕ → ℕ → List ℕ
float_registers f size = cond (eqb size 8) ((f + 1) ∷ f ∷ []) (f ∷ [])

-- Where the word of a floating register starts in an image: "It starts with eight register words, `$4` to `$7` then `$f12` to
-- `$f15`".
abbrev pub float_word : ℕ → ℕ
float_word f = 16 + 4 * (f - 12)

abbrev pub register_bytes : List ℕ → List ℕ
register_bytes [] = []
register_bytes (f ∷ fs) = run (float_word f) 4 ++ register_bytes fs

-- "An argument of rule 3 has .. the bytes of the register words which that rule names, in its order."
abbrev pub float_bytes : ℕ → ℕ → List ℕ
float_bytes f size = register_bytes (float_registers f size)

-- Rule 4, in an image: byte o of the arguments' structure is in register word o / 4, or at offset o of the area after the 32
-- bytes of the register words. "Byte i (from 0) of an argument at offset o is carried by image byte o + i where o + i is below
-- 16, else by image byte 32 + o + i."
abbrev pub carrier : ℕ → ℕ
carrier o = cond (ltb o 16) o (32 + o)

abbrev pub carriers : Placement → List ℕ
carriers p = cond (eqb p.register 0) (map carrier (run p.offset (width p.kind))) (float_bytes p.register p.kind.size)

-- Rule 5. "The area size A is the end of the last argument rounded up to 8, and at least 16."
abbrev pub area : ℕ → ℕ
area end = max 16 (up 8 end)

-- The state after a record. A marker is no argument.
abbrev pub advance : State → Kind → State
advance st k = record {
  prefix = extend st.prefix k;
  end = (lay_one st.end k).end;
  floating = cond (is Marker k) st.floating (cond (eqb st.prefix.count 0) (is Float k) st.floating);
}

-- The placement of a record: rules 2 and 3.
abbrev pub placement : Device → State → Kind → Placement
placement d st k = record { kind = k; offset = offset k st.end; register = register d st k }

-- Refusals 1, 2 and 3 in their order, or the record's placement; with its argument's number.
abbrev pub stepped : Device → State → Kind → Step Placement State
stepped d st k =
    cond (is Unknown k) (refuse 1 (argument st.prefix k))
    (cond (misplaced st.prefix k) (refuse 2 (argument st.prefix k))
    (cond (full st.prefix k) (refuse 3 (argument st.prefix k))
    (next (argument st.prefix k) (placement d st k) (advance st k))))

-- The state before the first record.
abbrev pub start : State
start = record { prefix = nothing; end = 0; floating = false }

-- Rule 5, refusal 5. "The end may be at most 1,024."
abbrev pub end_most : ℕ
end_most = 1024

-- "It starts with eight register words .., 32 bytes. .. Its length is 32 + A".
abbrev pub image_size : ℕ → ℕ
image_size end = 32 + area end

-- The convention on a device: only rule 3 looks at it.
abbrev pub O32 : Device → Convention
O32 d = record {
  State = State;
  Placement = Placement;
  start = start;
  step = λ st k. stepped d st (kind_of k);
  placed_at = λ k n p. record { kind = k; argument = n; size = p.kind.size; extension = extension p.kind; carriers = carriers p };
  fits = λ st. leb st.end end_most;
  image_length = λ st. image_size st.end;
}
