-- Two plans are the same exactly where their numbers are.
-- Assumes nothing.
use mathlib.Core.Path.{◌≡◌, refl, ap, ◌∙◌}
use mathlib.Core.List.{List}
use mathlib.Core.Bool.{Bool, ◌&&◌}
use Prim.Native.Nat.{ℕ}
use lib.ListN.{get_or, set}
use lib.Dec.{eqb}
use Rattle.std.specs.Bool.{Decides}
use Rattle.std.specs.Cmp.Lexicographic.{pointwise}
use Rattle.std.proofs.lemmas.List.{set-get_or}
use Rattle.std.proofs.lemmas.Bool.Decides.{Decides-and, Decides-at, Decides-eqb, Decides-like, same_from_decides}
use Rattle.std.proofs.lemmas.Slice.Eq.{slice_eq-Decides}
use Rattle.words.specs.Words.{same}
use Rattle.words.proofs.Bytes.{same→eq}
use Rattle.plans.specs.declared.Entry.{Entry}
use Rattle.plans.specs.declared.Plan.{Plan}
use Rattle.plans.specs.Plans.{numbers}
use Rattle.plans.proofs.Entries.{numbers_injective}
use Rattle.plans.proofs.Refusals.{alike}

-- what `==` answers of two entries, and of two plans
abbrev same_entry : Entry → Entry → Bool
same_entry x y = eqb x.kind y.kind && (eqb x.register y.register && eqb x.offset y.offset)

abbrev pub same_plan : Plan → Plan → Bool
same_plan a b = pointwise same_entry a.entries b.entries && (eqb a.count b.count && eqb a.area b.area)

entry_decides : (x y : Entry) → Decides (same_entry x y) (x ≡ y)
entry_decides x y =
    Decides-like (same_entry x y) (λ p i. record { kind = p.0 i; register = p.1.0 i; offset = p.1.1 i }) (λ q. (ap (λ (e : Entry). e.kind) q, (ap (λ (e : Entry). e.register) q, ap (λ (e : Entry). e.offset) q)))
    (Decides-and _ _ (Decides-eqb x.kind y.kind) (Decides-and _ _ (Decides-eqb x.register y.register) (Decides-eqb x.offset y.offset)))

plan_decides : (a b : Plan) → Decides (same_plan a b) (a ≡ b)
plan_decides a b =
    Decides-like (same_plan a b) (λ p i. record { entries = p.0 i; count = p.1.0 i; area = p.1.1 i }) (λ q. (ap (λ (p : Plan). p.entries) q, (ap (λ (p : Plan). p.count) q, ap (λ (p : Plan). p.area) q)))
    (Decides-and _ _ (slice_eq-Decides entry_decides a.entries b.entries (pointwise same_entry a.entries b.entries) refl) (Decides-and _ _ (Decides-eqb a.count b.count) (Decides-eqb a.area b.area)))

pub same_numbers : (a b : Plan) {r : Bool} → r ≡ same_plan a b → r ≡ same (numbers a) (numbers b)
same_numbers a b {r} e =
    same_from_decides r (same (numbers a) (numbers b)) (Decides-at r (same_plan a b) e (plan_decides a b))
    ((λ t. numbers_injective a b (same→eq (numbers a) (numbers b) (rw t tt))), λ q. alike (numbers a) (numbers b) (ap numbers q))

-- the same of a plan and of parts that are equal to those of another
pub same_parts : (a b : Plan) {es : List Entry} {n m : ℕ} {r : Bool} → r ≡ (pointwise same_entry a.entries es && (eqb a.count n && eqb a.area m))
    → es ≡ b.entries → n ≡ b.count → m ≡ b.area → r ≡ same (numbers a) (numbers b)
same_parts a b e f g h = same_numbers a b (rw (← f, ← g, ← h) e)

-- entries in which one is stored again as it is
pub set_alike : (es : List Entry) (i : ℕ) (e d : Entry) → e.kind ≡ (get_or es i d).kind → e.register ≡ (get_or es i d).register → e.offset ≡ (get_or es i d).offset → set es i e ≡ es
set_alike es i e d f g h =
    let same : e ≡ get_or es i d = λ j. record { kind = f j; register = g j; offset = h j } in
    ap (set es i) same ∙ set-get_or es i d
