-- Demand 3, of what a reader and a writer of O32 answer and leave in the lent buffers. Its text, which the comments here and in
-- carried/specs/Calls.antt quote:
--
-- "The carried bytes are those that the placement rules give to arguments: each argument byte, after promotion, has exactly one, none
-- shared; structure fill carries nothing. Two accepted images read as the same list exactly when they agree on all carried bytes,
-- whatever the rest holds. The writer accepts the reading of every accepted image; the image it then gives (the rewriting) has the
-- first one's carried bytes and zero elsewhere, is accepted, reads the same, is a fixed point; two images have the same rewriting
-- exactly when they read as the same list."
--
-- Other quotations are of document 01. `functions_of (O32 d)` (carried/specs/Calls.antt) are `read` and `write` on a device, as their
-- contracts say.
use Rattle.std.specs.Prelude.{◌≡◌, ◌↔◌, List, true, ℕ, ◌+◌, ◌≤◌, ◌<◌, length, get_or, take, drop}
use Rattle.words.specs.Words.{promote}
use Rattle.device.specs.declared.Device.{Device}
use Rattle.kinds.specs.Kinds.{kind_of}
use Rattle.o32_offsets.specs.Offsets.{extension}
use Rattle.carried.specs.Calls.{Functions, output, PastSignature, AcceptedSignature, LentBuffers, Accepts, reading_of, AcceptedImages}
use Rattle.o32_laws.specs.Carrying.{KindIn, ArgumentByte, CarriedBy, CarriedByte, image_bytes, list_bytes}
use Rattle.o32_laws.specs.Nothing.{EachByte}
use Rattle.o32_laws.specs.Refusing.{Accepted, Improper}

-- Where the record of a kind stands in a list of the signature, and its body there.
abbrev pub record_at : {sig : List ℕ} → KindIn sig → ℕ
record_at a = list_bytes a.before

abbrev pub body_in : {sig : List ℕ} → KindIn sig → List ℕ → List ℕ
body_in a list = take (kind_of a.kind).size (drop (record_at a + 1) list)

-- Buffers that are long enough for the lists and the images of a signature.
abbrev pub Buffers : List ℕ → Type 0
Buffers sig = LentBuffers (list_bytes sig) (image_bytes sig)

-- At one accepted signature.
pub record CarriedBytes (f : Functions) (d : Device) (sig : List ℕ) : Type 0 where
  -- "The carried bytes are those that the placement rules give to arguments": that is the definition `CarriedByte`.
  -- "each argument byte, after promotion, has exactly one,
  pub one_carrier : (b : ArgumentByte sig) → (p : ℕ) × CarriedBy d b p × ((q : ℕ) → CarriedBy d b q → q ≡ p)
  -- none shared;" and all are in the image.
  pub none_shared : (b c : ArgumentByte sig) (p : ℕ) → CarriedBy d b p → CarriedBy d c p
      → (length b.argument.before ≡ length c.argument.before) × (b.index ≡ c.index)
  pub inside : (p : ℕ) → CarriedByte d sig p → p < image_bytes sig
  -- "structure fill carries nothing." Each byte of an image is carried, or is empty for a named reason, fill among them, and never both.
  pub each_byte : EachByte d sig
  -- How long lists and images are: buffers of 1,057 and of 1,056 bytes are always long enough.
  pub lengths : (list_bytes sig ≤ 1057) × (48 ≤ image_bytes sig) × (image_bytes sig ≤ 1056)
  -- "An image is accepted for it when none of the reader's refusals but 7 holds": neither 6 nor 8.
  pub accepted_exactly : (u : Buffers sig) (a : List ℕ) → Accepts f sig u a ↔ ((length a ≡ image_bytes sig) × ((b : KindIn sig) → Improper b a → ⊥))
  -- "The reading is the list that the reader writes: the signature's kind bytes in order, each followed by the body whose bytes, after
  -- promotion, are those that the image carries for it".
  pub reading_length : (u : Buffers sig) (a : List ℕ) → Accepts f sig u a
      → ((f.read sig a u.list).length ≡ list_bytes sig) × (length (reading_of f sig u a) ≡ list_bytes sig)
  pub reading_kinds : (u : Buffers sig) (a : List ℕ) → Accepts f sig u a → (b : KindIn sig) → get_or (reading_of f sig u a) (record_at b) 0 ≡ b.kind
  pub reading_bodies : (u : Buffers sig) (a : List ℕ) → Accepts f sig u a → (b : ArgumentByte sig) (p : ℕ) → CarriedBy d b p
      → get_or (promote (extension (kind_of b.argument.kind)) (body_in b.argument (reading_of f sig u a))) b.index 0 ≡ get_or a p 0
  -- "Two accepted images ..", and all that follows in the demand.
  pub images : AcceptedImages f sig (list_bytes sig) (image_bytes sig) (CarriedByte d sig)

-- "Demand 3 is one claim about writer and reader, over all accepted signatures and all images accepted for them."
pub record Demand (f : Functions) (d : Device) : Type 0 where
  pub carried_bytes : (sig : List ℕ) → AcceptedSignature f sig → CarriedBytes f d sig
  -- (One answer of the reader tells whether a signature is accepted.)
  pub one_answer_decides : (sig img out : List ℕ) → PastSignature (f.read sig img out).refusal → AcceptedSignature f sig
  -- Every list that the writer accepts is the reading of its image, under the list's own kinds.
  pub round_trip : (list ks out : List ℕ) → Accepted true list ks → (f.write list out).refusal ≡ 0
      → AcceptedSignature f ks
      × ((u : Buffers ks) → Accepts f ks u (output (f.write list out)) × (reading_of f ks u (output (f.write list out)) ≡ list))
  -- Some accepted signature has lists of 1,057 bytes, and some has images of 1,056: no shorter buffers are always long enough.
  pub longest_list : (sig : List ℕ) × AcceptedSignature f sig × (list_bytes sig ≡ 1057)
  pub longest_image : (sig : List ℕ) × AcceptedSignature f sig × (image_bytes sig ≡ 1056)
