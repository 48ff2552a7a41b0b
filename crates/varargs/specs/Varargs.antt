-- What holds of the walker: of its definition, and of what a walker answers and leaves in a lent buffer. The comments quote request
-- (v) of document 02.
use Rattle.std.specs.Prelude.{◌≡◌, ◌↔◌, List, [], ◌∷◌, true, false, ℕ, zero, suc, ◌+◌, ◌≤◌, ◌<◌, length}
use Rattle.device.specs.declared.Device.{Device}
use Rattle.answers.specs.Outcomes.{done, answer_of, buffer_of}
use Rattle.kinds.specs.Kinds.{kind_of}
use Rattle.carried.specs.Convention.{read}
use Rattle.carried.specs.Calls.{Result, result_of, output, Functions, Agree}
use Rattle.o32.specs.O32.{O32}
use Rattle.o32_laws.specs.Carrying.{ArgumentByte, CarriedBy}
use Rattle.o32_laws.specs.Refusing.{Accepted, RefusedAt, ImageRefuses, Refuses, KeepsBuffer}
use Rattle.varargs.specs.Walking.{after, marked, walk, walk_into}

-- The bodies of a list's records, end to end, without the kind bytes. With so many bytes of a body still to come.
abbrev pub bodies_from : ℕ → List ℕ → List ℕ
bodies_from n [] = []
bodies_from zero (k ∷ l) = bodies_from (kind_of k).size l
bodies_from (suc n) (b ∷ l) = b ∷ bodies_from n l

-- "the reader's bodies of the arguments behind the marker, end to end": those of this list.
abbrev pub bodies_after : List ℕ → List ℕ
bodies_after list = bodies_from 0 (after true list)

-- "the walker's own length": how many bytes the bodies of these kinds have.
abbrev pub body_bytes : List ℕ → ℕ
body_bytes [] = 0
body_bytes (k ∷ ks) = (kind_of k).size + body_bytes ks

-- Image byte p carries a byte of an argument after the marker.
abbrev pub CarriedAfter : Device → List ℕ → ℕ → Type 0
CarriedAfter d sig p = (b : ArgumentByte sig) × (marked b.argument.before ≡ true) × CarriedBy d b p

-- A walker, of a signature and an image into a buffer for the bodies; and the one that the contract of `walk` describes.
abbrev pub Walker : Type 0
Walker = List ℕ → List ℕ → List ℕ → Result

abbrev pub walker_of : Device → Walker
walker_of d sig img out = result_of (answer_of (walk_into d sig img (length out))) (buffer_of (walk_into d sig img (length out)) out)

-- ---- demand 1: when a walker refuses, into a buffer with so many bytes. None of it depends on the device.

pub data WalkerRefuses (sig img : List ℕ) (room r place j : ℕ) : Type 0 where
  -- 1, 2, 3 and 5, as in the reader
  by_record : RefusedAt false sig r place j → WalkerRefuses sig img room r place j
  -- 15, "signature without a marker, after all signature checks and before 6"
  unmarked : Accepted false sig sig → marked sig ≡ false → r ≡ 15 → place ≡ 0 → j ≡ 0 → WalkerRefuses sig img room r place j
  -- "then as the reader's, 7 by the walker's own length"
  by_image : Accepted false sig sig → marked sig ≡ true → ImageRefuses sig img (body_bytes (after false sig)) room r place j → WalkerRefuses sig img room r place j

pub record WalkerRefusals (w : Walker) : Type 0 where
  pub refuses : (sig img out : List ℕ) (r place j : ℕ) → 1 ≤ r → Refuses (w sig img out) r place j ↔ WalkerRefuses sig img (length out) r place j
  pub accepts : (sig img out : List ℕ) → ((w sig img out).refusal ≡ 0) ↔ ((r place j : ℕ) → WalkerRefuses sig img (length out) r place j → ⊥)
  pub keeps : (sig img out : List ℕ) → KeepsBuffer out (w sig img out)

-- ---- "Proved: on every image the reader accepts, whatever the holes hold, it writes just the reader's bodies of the arguments behind
-- the marker, end to end."

-- Of the definitions.
abbrev pub TakesBodies : Device → Type 0
TakesBodies d = (sig img list : List ℕ) → marked sig ≡ true → read (O32 d) sig img ≡ done list → walk d sig img ≡ done (bodies_after list)

-- Of a reader with a list buffer that is long enough, and a walker. The bodies are those of what the reader has put into its buffer.
pub record Walks (f : Functions) (w : Walker) (d : Device) : Type 0 where
  -- into a buffer that is long enough the walker writes these bodies and nothing else, and answers their length,
  pub takes_bodies : (sig img lent out : List ℕ) → marked sig ≡ true → (f.read sig img lent).refusal ≡ 0 → length (bodies_after (output (f.read sig img lent))) ≤ length out
      → ((w sig img out).refusal ≡ 0) × ((w sig img out).length ≡ body_bytes (after false sig)) × (output (w sig img out) ≡ bodies_after (output (f.read sig img lent)))
  -- which the kinds after the marker say;
  pub exact_length : (sig img lent : List ℕ) → marked sig ≡ true → (f.read sig img lent).refusal ≡ 0 → length (bodies_after (output (f.read sig img lent))) ≡ body_bytes (after false sig)
  -- into a shorter one it refuses 7
  pub short_of_room : (sig img lent out : List ℕ) → marked sig ≡ true → (f.read sig img lent).refusal ≡ 0 → length out < length (bodies_after (output (f.read sig img lent)))
      → Refuses (w sig img out) 7 0 0
  -- two images that the reader accepts and that agree on the bytes carried for the arguments after the marker are walked alike
  pub walk_same : (sig a b lent lent' out : List ℕ) → (f.read sig a lent).refusal ≡ 0 → (f.read sig b lent').refusal ≡ 0 → Agree (CarriedAfter d sig) a b
      → w sig a out ≡ w sig b out
  -- each refusal exactly when its condition holds
  pub refusals : WalkerRefusals w

-- ---- on every device

-- The answer, and what is left in the buffer, do not depend on the device. Nothing that a routine does depends on it, nor do 1 to 7
-- and 15; and 8 asks no float, while rule 3, the only rule that looks at the device, places floats alone.
abbrev pub SameOnDevices : Type 0
SameOnDevices = (d e : Device) (sig img out : List ℕ) → walker_of d sig img out ≡ walker_of e sig img out

-- A buffer of 1,020 bytes is always long enough, and no shorter one is.
pub record Longest : Type 0 where
  pub most : (sig : List ℕ) → Accepted false sig sig → marked sig ≡ true → body_bytes (after false sig) ≤ 1020
  pub some : (sig : List ℕ) × Accepted false sig sig × (marked sig ≡ true) × (body_bytes (after false sig) ≡ 1020)
