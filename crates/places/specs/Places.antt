-- Bytes of an image: an image byte is a number, its offset in the image. Nothing here belongs to one convention.
use Rattle.std.specs.Prelude.{◌≡◌, ◌⊎◌, List, [], ◌∷◌, ℕ, zero, suc, get_or, set}

-- n image bytes from p on.
abbrev pub run : ℕ → ℕ → List ℕ
run p zero = []
run p (suc n) = p ∷ run (suc p) n

-- What an image holds at these bytes, in order.
abbrev pub gather : List ℕ → List ℕ → List ℕ
gather img [] = []
gather img (p ∷ ps) = get_or img p 0 ∷ gather img ps

-- An image after these values were stored at these bytes, in order.
abbrev pub put : List ℕ → List ℕ → List ℕ → List ℕ
put img [] vs = img
put img (p ∷ ps) [] = img
put img (p ∷ ps) (v ∷ vs) = put (set img p v) ps vs

-- p is one of these image bytes.
abbrev pub In : ℕ → List ℕ → Type 0
In p [] = ⊥
In p (q ∷ qs) = (p ≡ q) ⊎ In p qs

-- No image byte is in the list twice.
abbrev pub Distinct : List ℕ → Type 0
Distinct [] = Unit {0}
Distinct (p ∷ ps) = (In p ps → ⊥) × Distinct ps
