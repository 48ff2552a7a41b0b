-- Which image byte carries which byte of an argument, said of the kinds that stand before it ("The image").
use Rattle.std.specs.Prelude.{◌≡◌, ◌↔◌, List, [], ◌∷◌, ◌++◌, cond, ◌&&◌, ℕ, ◌+◌, ◌-◌, ◌*◌, ◌≤◌, ◌<◌, min, length, get_or}
use Rattle.device.specs.declared.Device.{Device}
use Rattle.device.specs.declared.Device.TheVariants.{Fpu, NoFpu}
use Rattle.carried.specs.Image.{Placed}
use Rattle.kinds.specs.declared.Class.TheVariants.{Float}
use Rattle.kinds.specs.Kinds.{kind_of, is}
use Rattle.o32_offsets.specs.Offsets.{extension, width, offset, lay}
use Rattle.places.specs.Places.{run}
use Rattle.o32.specs.O32.{area}

-- Rule 3. The floating register of a kind after these: $f12 for an s or d with no kind before it, $f14 for an s or d whose only kind
-- before it is an s or d (a marker between them would be a second kind), and 0 for every other argument. Without a floating-point
-- unit (request (ii) of document 02) "All arguments go by offset".
abbrev pub register_after : Device → List ℕ → ℕ → ℕ
register_after NoFpu before k = 0
register_after Fpu [] k = cond (is Float (kind_of k)) 12 0
register_after Fpu (j ∷ []) k = cond (is Float (kind_of j) && is Float (kind_of k)) 14 0
register_after Fpu (j ∷ i ∷ js) k = 0

-- Rule 2. The offset of a kind after these.
abbrev pub offset_after : List ℕ → ℕ → ℕ
offset_after before k = offset (kind_of k) (lay 0 before).end

-- Image byte p carries byte i of the argument of kind k after these kinds.
pub data Carries (d : Device) (before : List ℕ) (k i p : ℕ) : Type 0 where
  -- "Byte i (from 0) of an argument at offset o is carried by image byte o + i where o + i is below 16,
  low : register_after d before k ≡ 0 → offset_after before k + i < 16 → p ≡ offset_after before k + i → Carries d before k i p
  -- else by image byte 32 + o + i.
  high : register_after d before k ≡ 0 → 16 ≤ offset_after before k + i → p ≡ 32 + (offset_after before k + i) → Carries d before k i p
  -- An argument of rule 3 has instead the bytes of the register words which that rule names, in its order."
  single : 1 ≤ register_after d before k → (kind_of k).size ≡ 4 → p ≡ 16 + 4 * (register_after d before k - 12) + i → Carries d before k i p
  -- Of a double, as request (i) of document 02 mends rule 3: the first four bytes in the odd register, the next four in the even one.
  odd : 1 ≤ register_after d before k → (kind_of k).size ≡ 8 → i < 4 → p ≡ 16 + 4 * (register_after d before k + 1 - 12) + i → Carries d before k i p
  even : 1 ≤ register_after d before k → (kind_of k).size ≡ 8 → 4 ≤ i → p ≡ 16 + 4 * (register_after d before k - 12) + (i - 4) → Carries d before k i p

-- The record of this kind is so placed: its body and its promotion are the kind's, it has as many carriers as bytes after promotion,
-- and carrier i is the image byte that carries byte i.
pub record CarriedAt (d : Device) (before : List ℕ) (k : ℕ) (s : Placed) : Type 0 where
  pub size : s.size ≡ (kind_of k).size
  pub promotion : s.extension ≡ extension (kind_of k)
  pub long : length s.carriers ≡ width (kind_of k)
  pub bytes : (i p : ℕ) → i < width (kind_of k) → (get_or s.carriers i 0 ≡ p) ↔ Carries d before k i p

-- A kind in a signature, with the kinds before and after it: an argument, or the marker.
pub record KindIn (sig : List ℕ) : Type 0 where
  pub before : List ℕ
  pub kind : ℕ
  pub after : List ℕ
  pub here : before ++ (kind ∷ after) ≡ sig

-- Where the arguments before it end, its offset, and its bytes after promotion. (A marker has no bytes; the 0 that stands for its
-- offset is not used.)
module _ {sig : List ℕ} (a : KindIn sig) where
  abbrev pub end_before : ℕ
  end_before = (lay 0 a.before).end

  abbrev pub offset_of : ℕ
  offset_of = offset_after a.before a.kind

  abbrev pub width_of : ℕ
  width_of = width (kind_of a.kind)

-- "An argument's bytes are those of its body after promotion, without fill."
pub record ArgumentByte (sig : List ℕ) : Type 0 where
  pub argument : KindIn sig
  pub index : ℕ
  pub inside : index < width_of argument

abbrev pub CarriedBy : Device → {sig : List ℕ} → ArgumentByte sig → ℕ → Type 0
CarriedBy d b p = Carries d b.argument.before b.argument.kind b.index p

-- The carried bytes are those that the placement rules give to arguments.
abbrev pub CarriedByte : Device → List ℕ → ℕ → Type 0
CarriedByte d sig p = (b : ArgumentByte sig) × CarriedBy d b p

-- The length of an image of arguments of these kinds, "32 + A", and of a list: a kind byte and a body for each.
abbrev pub image_bytes : List ℕ → ℕ
image_bytes ks = 32 + area (lay 0 ks).end

abbrev pub list_bytes : List ℕ → ℕ
list_bytes [] = 0
list_bytes (k ∷ ks) = 1 + (kind_of k).size + list_bytes ks

-- Request (iii) of document 02, of a structure (kinds 40 to FF): "of a structure at offset o below 16, the first 16 - o bytes (all,
-- if fewer) lie together from image byte o and the rest from 48; from o = 16 on, all lie from 32 + o."
pub record InRuns (before : List ℕ) (k : ℕ) (s : Placed) : Type 0 where
  pub below : 0x40 ≤ k → (o n : ℕ) → o ≡ offset_after before k → n ≡ (kind_of k).size → o < 16
      → s.carriers ≡ run o (min (16 - o) n) ++ run 48 (n - (16 - o))
  pub above : 0x40 ≤ k → (o n : ℕ) → o ≡ offset_after before k → n ≡ (kind_of k).size → 16 ≤ o
      → s.carriers ≡ run (32 + o) n
