-- One record at a place of a list or a signature: the scan from there is its refusal, or its record and the scan after it.
-- Assumes nothing.
use mathlib.Core.Path.{◌≡◌, refl, ◌∙◌, subst}
use mathlib.Core.List.{List, [], ◌∷◌}
use mathlib.Core.Bool.{Bool, true, false, cond}
use Prim.Native.Nat.{ℕ, zero, suc, ◌+◌, ◌-◌, ◌≤◌, ◌<◌}
use native.Mathlib.Omega.{arith}
use native.Mathlib.Nat.{add-zero, suc-add, add-suc}
use native.Mathlib.Numerals.{add-one}
use lib.ListN.{length, get_or, drop, length-drop}
use lib.Seq.{drop-cons, drop-drop, drop-length}
use lib.Dec.{ltb}
use borrow.Author.Tests.{ltb-false}
use Rattle.carried.specs.Convention.{Step, refuse, next, Convention, Scan, stopped, complete, prepend, body_length, limited, taken, proceed, scan_from}

module _ (c : Convention) (bodies : Bool) where
  pass_body : (n at : ℕ) (st : c.State) (l : List ℕ) → n ≤ length l → scan_from c bodies at st n l ≡ scan_from c bodies (at + n) st 0 (drop n l)
  pass_body zero at st l h = rw add-zero
  pass_body (suc n) at st [] h = absurd (omega arith)
  pass_body (suc n) at st (b ∷ l) h = pass_body n (suc at) st l (omega arith) ∙ rw (suc-add, ← add-suc)

  -- a record that is taken has its body
  abbrev Uncut : ℕ → ℕ → Step c.Placement c.State → Type 0
  Uncut left k (refuse r j) = Unit {0}
  Uncut left k (next j p st) = body_length bodies (c.placed_at k j p).size ≤ left

  uncut : (left k : ℕ) (s : Step c.Placement c.State) → Uncut left k (limited c bodies left k s)
  uncut left k (refuse r j) = tt
  uncut left k (next j p st) = go (ltb left (body_length bodies (c.placed_at k j p).size)) refl (c.fits st)
    where
      go : (t : Bool) → ltb left (body_length bodies (c.placed_at k j p).size) ≡ t → (u : Bool) → Uncut left k (cond t (refuse 4 j) (cond u (next j p st) (refuse 5 j)))
      go true e u = tt
      go false e false = tt
      go false e true = ltb-false left (body_length bodies (c.placed_at k j p).size) e

  module _ (list : List ℕ) where
    -- the scan from the record at this place on
    abbrev pub scan_at : ℕ → c.State → Scan c.State
    scan_at at st = scan_from c bodies at st 0 (drop at list)

    pub records_end : (at : ℕ) (st : c.State) → at ≤ length list → length list ≤ at → scan_at at st ≡ complete [] st
    records_end at st h g = let e : at ≡ length list = omega arith in rw (e, drop-length)

    module _ (at : ℕ) (st : c.State) (h : at < length list) where
      abbrev pub kind_at : ℕ
      kind_at = get_or list at 0

      abbrev pub answered : Step c.Placement c.State
      answered = taken c bodies (length list - (at + 1)) st kind_at

      here : scan_at at st ≡ proceed c at kind_at answered (λ size st'. scan_from c bodies (suc at) st' (body_length bodies size) (drop (suc at) list))
      here = rw (drop-cons list at 0 h, length-drop (suc at) list, add-one at)

      pub record_stops : (r j : ℕ) → answered ≡ refuse r j → scan_at at st ≡ stopped r at j
      record_stops r j e = here ∙ rw e

      pub taken_inside : (j : ℕ) (p : c.Placement) (st' : c.State) → answered ≡ next j p st' → at + 1 + body_length bodies (c.placed_at kind_at j p).size ≤ length list
      taken_inside j p st' e = omega (arith, subst (Uncut (length list - (at + 1)) kind_at) e (uncut (length list - (at + 1)) kind_at (c.step st kind_at)))

      pub record_goes_on : (j : ℕ) (p : c.Placement) (st' : c.State) → answered ≡ next j p st'
          → scan_at at st ≡ prepend (c.placed_at kind_at j p) (scan_at (at + 1 + body_length bodies (c.placed_at kind_at j p).size) st')
      record_goes_on j p st' e =
          let n : ℕ = body_length bodies (c.placed_at kind_at j p).size in
          let w : at + 1 + n ≤ length list = taken_inside j p st' e in
          here ∙ rw (e, pass_body n (suc at) st' (drop (suc at) list) (omega (arith, length-drop (suc at) list)), drop-drop n (suc at) list, add-one at)
