-- The carried-bytes theorem, as a statement about the writer and the reader of a convention, on lists of bytes: a step towards demand 3,
-- which is o32_laws/specs/Demand.antt.
use Rattle.std.specs.Prelude.{◌≡◌, true, false, ◌↔◌, List, [], ◌∷◌, ℕ, ◌<◌, length, get_or}
use Rattle.words.specs.Words.{promote, proper}
use Rattle.carried.specs.Image.{Placed, carried, promoted_bytes, image, reading}
use Rattle.answers.specs.Outcomes.{done}
use Rattle.places.specs.Places.{gather, In, Distinct}
use Rattle.carried.specs.Convention.{Convention, complete, scan, write, read}

-- Each byte of an argument after promotion has its entry among the argument's carriers.
abbrev pub Sized : List Placed → Type 0
Sized [] = Unit {0}
Sized (s ∷ L) = ((b : List ℕ) → length b ≡ s.size → length (promote s.extension b) ≡ length s.carriers) × Sized L

abbrev pub kinds : List Placed → List ℕ
kinds [] = []
kinds (s ∷ L) = s.kind ∷ kinds L

-- Each argument byte has exactly one carried byte, none shared, and all lie in the image's n bytes.
pub record OneEach (n : ℕ) (L : List Placed) : Type 0 where
  pub sized : Sized L
  pub distinct : Distinct (carried L)
  pub inside : (p : ℕ) → In p (carried L) → p < n

-- No word of an image is an improper promotion (refusal 8).
abbrev pub AllProper : List Placed → List ℕ → Type 0
AllProper [] img = Unit {0}
AllProper (s ∷ L) img = (proper s.extension s.size (gather img s.carriers) ≡ true) × AllProper L img

-- "An image is accepted for it when none of the reader's refusals but 7 holds": neither 6 nor 8.
pub record Accepted (n : ℕ) (L : List Placed) (img : List ℕ) : Type 0 where
  pub whole : length img ≡ n
  pub promoted : AllProper L img

-- "The rewriting is the image that the writer gives for the reading": of an image a that reads as x.
pub record Rewriting (c : Convention) (sig : List ℕ) (L : List Placed) (n : ℕ) (a x : List ℕ) : Type 0 where
  pub rewriting : List ℕ
  pub written : write c x ≡ done rewriting
  pub whole : length rewriting ≡ n
  pub keeps : (p : ℕ) → In p (carried L) → get_or rewriting p 0 ≡ get_or a p 0
  pub clears : (p : ℕ) → (In p (carried L) → ⊥) → get_or rewriting p 0 ≡ 0
  pub reads : read c sig rewriting ≡ done x
  pub fixed : (y r : List ℕ) → read c sig rewriting ≡ done y → write c y ≡ done r → r ≡ rewriting

-- The theorem at one accepted signature: L are its records, placed; an image has n bytes.
pub record Carried (c : Convention) (sig : List ℕ) (L : List Placed) (n : ℕ) : Type 0 where
  pub signature : kinds L ≡ sig
  pub one_each : OneEach n L
  -- every accepted image is read, and no other
  pub accepts : (a : List ℕ) → Accepted n L a → read c sig a ≡ done (reading L a)
  pub accepted : (a x : List ℕ) → read c sig a ≡ done x → Accepted n L a
  -- the bytes of the reading's arguments after promotion are those that the image carries
  pub carries : (a x : List ℕ) → read c sig a ≡ done x → promoted_bytes L x ≡ gather a (carried L)
  -- two images read as the same list exactly when they agree on all carried bytes
  pub read_same : (a b x y : List ℕ) → read c sig a ≡ done x → read c sig b ≡ done y
      → (x ≡ y) ↔ ((p : ℕ) → In p (carried L) → get_or a p 0 ≡ get_or b p 0)
  pub rewrites : (a x : List ℕ) → read c sig a ≡ done x → Rewriting c sig L n a x
  -- two images have the same rewriting exactly when they read as the same list
  pub same_rewriting : (a b x y r s : List ℕ) → read c sig a ≡ done x → read c sig b ≡ done y
      → write c x ≡ done r → write c y ≡ done s → (r ≡ s) ↔ (x ≡ y)

-- A list that the writer accepts: its signature places the same records, its image is accepted for it and reads as the list.
pub record RoundTrip (c : Convention) (l : List ℕ) (L : List Placed) (last : c.State) : Type 0 where
  pub signature : scan c false (kinds L) ≡ complete L last
  pub written : write c l ≡ done (image (c.image_length last) L l)
  pub accepted : Accepted (c.image_length last) L (image (c.image_length last) L l)
  pub reads : read c (kinds L) (image (c.image_length last) L l) ≡ done l
