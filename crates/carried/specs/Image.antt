-- What it means that bytes of an image carry arguments ("The image"). Nothing here belongs to one convention.
use Rattle.std.specs.Prelude.{List, [], ◌∷◌, ◌++◌, cond, ℕ, suc, ◌+◌, take, drop, replicate}
use Rattle.answers.specs.Outcomes.{Outcome, refused}
use Rattle.places.specs.Places.{gather, put}
use Rattle.words.specs.Words.{Extension, promote, body, proper}

-- A record of a list with its place in the image: its kind byte, its argument's number, the bytes of its body, what promotion
-- puts in front of them, and the image bytes that carry its bytes after promotion, in their order. (A marker has none, and the
-- number 0.)
pub record Placed : Type 0 where
  pub kind : ℕ
  pub argument : ℕ
  pub size : ℕ
  pub extension : Extension
  pub carriers : List ℕ

-- The carried bytes of a signature, argument by argument.
abbrev pub carried : List Placed → List ℕ
carried [] = []
carried (s ∷ L) = s.carriers ++ carried L

-- The bytes of a list's arguments after promotion, argument by argument.
abbrev pub promoted_bytes : List Placed → List ℕ → List ℕ
promoted_bytes [] l = []
promoted_bytes (s ∷ L) [] = []
promoted_bytes (s ∷ L) (k ∷ l) = promote s.extension (take s.size l) ++ promoted_bytes L (drop s.size l)

-- The image of a list, n bytes long. "The writer puts zero in every byte that carries nothing".
abbrev pub image : ℕ → List Placed → List ℕ → List ℕ
image n L l = put (replicate n 0) (carried L) (promoted_bytes L l)

-- The reading: "the signature's kind bytes in order, each followed by the body whose bytes, after promotion, are those that
-- the image carries for it".
abbrev pub reading : List Placed → List ℕ → List ℕ
reading [] img = []
reading (s ∷ L) img = s.kind ∷ (body s.size (gather img s.carriers) ++ reading L img)

-- How many bytes these records are in a list: a kind byte and a body for each.
abbrev pub length_of_list : List Placed → ℕ
length_of_list [] = 0
length_of_list (s ∷ L) = suc (s.size + length_of_list L)

-- Refusal 8, as this number, at the first kind whose bytes are no proper promotion, with its argument's number, or else this outcome.
-- (Where promotion adds nothing, any bytes are proper.)
abbrev pub checked : ℕ → ℕ → List Placed → List ℕ → Outcome → Outcome
checked number at [] img a = a
checked number at (s ∷ L) img a =
    cond (proper s.extension s.size (gather img s.carriers)) (checked number (suc at) L img a) (refused number at s.argument)
