-- The words of a plan are stored entry by entry: those before i are the entries', those after are as they were.
-- Assumes nothing.
use mathlib.Core.Path.{◌≡◌, refl, ap, ◌∙◌}
use mathlib.Core.List.{List, [], ◌∷◌, ◌++◌}
use Prim.Native.Nat.{ℕ, ◌+◌, ◌-◌, ◌*◌, ◌≤◌, ◌<◌}
use native.Mathlib.Omega.{arith}
use native.Mathlib.Numerals.{add-one, add-two}
use lib.ListN.{length, get_or, set, take, drop, length-append, length-set, length-drop}
use lib.Seq.{sets-eq, take-suc, take_at, drop-append-add, length-take-le, drop-drop}
use Rattle.answers.specs.Outcomes.{over}
use Rattle.plans.specs.declared.Entry.{Entry}
use Rattle.plans.specs.declared.Plan.{Plan}
use Rattle.plans.specs.Plans.{no_entry, entry_numbers, numbers}
use Rattle.plans.proofs.Entries.{entry_numbers_long, numbers_long}

-- ---- the numbers of entries

pub numbers-append : (xs ys : List Entry) → entry_numbers (xs ++ ys) ≡ entry_numbers xs ++ entry_numbers ys
numbers-append [] ys = refl
numbers-append (x ∷ xs) ys = rw (numbers-append xs ys)

-- ---- three stores in a row after what is stored already

three_stores : (done rest : List ℕ) (at a b c : ℕ) → length done ≡ at → 3 ≤ length rest
    → set (set (set (done ++ rest) at a) (at + 1) b) (at + 2) c ≡ (done ++ (a ∷ b ∷ c ∷ [])) ++ drop 3 rest
three_stores done rest at a b c e h =
    let l : at + 3 ≤ length (done ++ rest) = omega (arith, length-append done rest) in
    rw (add-one at, add-two at)
    (sets-eq (a ∷ b ∷ c ∷ []) (done ++ rest) at l
    ∙ rw (take_at done rest at e, ← e, drop-append-add done rest 3) refl)

-- entry i stored after those before it
pub storing_turn : (entries : List Entry) (out o : List ℕ) (i : ℕ) → 3 * length entries ≤ length out → i < length entries
    → (length o ≡ length out) × (o ≡ entry_numbers (take i entries) ++ drop (3 * i) out)
    → let e = get_or entries i no_entry in let o' = set (set (set o (3 * i) e.kind) (3 * i + 1) e.offset) (3 * i + 2) e.register in
    (length o' ≡ length out) × (o' ≡ entry_numbers (take (i + 1) entries) ++ drop (3 * (i + 1)) out)
storing_turn entries out o i room h w =
    let e : Entry = get_or entries i no_entry in
    let k : length (entry_numbers (take i entries)) ≡ 3 * i = entry_numbers_long (take i entries) ∙ ap (λ (n : ℕ). 3 * n) (length-take-le i entries (omega arith)) in
    let n : length (drop (3 * i) out) ≡ length out - 3 * i = length-drop (3 * i) out in
    let t : entry_numbers (take (i + 1) entries) ≡ entry_numbers (take i entries) ++ (e.kind ∷ e.offset ∷ e.register ∷ []) =
    rw (add-one i, take-suc entries i no_entry h) (numbers-append (take i entries) (e ∷ [])) in
    let m : 3 * i + 3 ≡ 3 * (i + 1) = omega arith in
    let q : set (set (set o (3 * i) e.kind) (3 * i + 1) e.offset) (3 * i + 2) e.register ≡ (entry_numbers (take i entries) ++ (e.kind ∷ e.offset ∷ e.register ∷ [])) ++ drop 3 (drop (3 * i) out) =
    rw w.1 (three_stores (entry_numbers (take i entries)) (drop (3 * i) out) (3 * i) e.kind e.offset e.register k (omega arith)) in
    (rw (length-set, length-set, length-set) w.0, q ∙ rw (drop-drop 3 (3 * i) out, m, ← t) refl)

-- ---- the count and the area after them

pub plan-stored : (plan : Plan) (out : List ℕ) {o o' : List ℕ} → length plan.entries ≡ 32 → 98 ≤ length out → o ≡ over (entry_numbers plan.entries) out
    → o' ≡ set (set o 96 plan.count) 97 plan.area → o' ≡ over (numbers plan) out
plan-stored plan out {o} {o'} long room e g =
    let E : List ℕ = entry_numbers plan.entries in
    let n : length E ≡ 96 = omega (arith, entry_numbers_long plan.entries) in
    let m : length (numbers plan) ≡ 98 = numbers_long plan long in
    let f : o ≡ E ++ drop 96 out = e ∙ rw n refl in
    let l : length (drop 96 out) ≡ length out - 96 = length-drop 96 out in
    let s : length (E ++ drop 96 out) ≡ length out = omega (arith, length-append E (drop 96 out)) in
    let q : o' ≡ set (set (E ++ drop 96 out) 96 plan.count) 97 plan.area = g ∙ ap (λ (x : List ℕ). set (set x 96 plan.count) 97 plan.area) f in
    let k : 98 ≡ length E + 2 = omega arith in
    let t : drop 98 (E ++ drop 96 out) ≡ drop 98 out = ap (λ (i : ℕ). drop i (E ++ drop 96 out)) k ∙ drop-append-add E (drop 96 out) 2 ∙ drop-drop 2 96 out in
    q
    ∙ sets-eq (plan.count ∷ plan.area ∷ []) (E ++ drop 96 out) 96 (omega arith)
    ∙ rw (take_at E (drop 96 out) 96 n, t, m) refl
