-- Steps of one byte: by the test that chooses one, and whether two are the same.
-- Assumes nothing.
use mathlib.Core.Path.{◌≡◌, refl}
use mathlib.Core.Bool.{Bool, true, false, cond}
use Prim.Native.Nat.{ℕ}
use Rattle.descriptions.specs.Describing.{State, Step, refuse, go}

-- a property of what a test chooses
pub decided : {A : Type 0} (P : A → Type 0) (t : Bool) {a b : A} → (t ≡ true → P a) → (t ≡ false → P b) → P (cond t a b)
decided P true f g = f refl
decided P false f g = g refl

-- where a step is known, which was chosen
pub by_test : {A : Type 0} (t : Bool) {x y z : Step} → cond t x y ≡ z → (t ≡ true → x ≡ z → A) → (t ≡ false → y ≡ z → A) → A
by_test {A} t {z = z} e f g = decided (λ (s : Step). s ≡ z → A) t f g e

pub go_same : {x y : State} → go x ≡ go y → x ≡ y
go_same e = cc

pub refuse_same : {r q : ℕ} → refuse r ≡ refuse q → r ≡ q
refuse_same e = cc

pub refuse_no : {A : Type 0} {r : ℕ} {st : State} → refuse r ≡ go st → A
refuse_no e = absurd (cc)
