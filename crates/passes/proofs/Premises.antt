-- What a convention gives so that the laws of the passes hold of it; and what a record that is taken says of its step.
-- Assumes nothing.
use mathlib.Core.Path.{◌≡◌, refl, subst}
use mathlib.Core.Bool.{Bool, true, false, cond}
use Prim.Native.Nat.{ℕ, ◌+◌, ◌≤◌}
use lib.Dec.{ltb}
use Rattle.carried.specs.Convention.{Step, refuse, next, Convention, body_length, limited, taken}
use Rattle.carried.proofs.Walks.{Laws}

pub record Premises (c : Convention) : Type 1 where
  pub laws : Laws c
  -- what holds of the state after records of so many bytes
  pub Held : ℕ → c.State → Type 0
  pub held_first : Held 0 c.start
  pub held_next : (n : ℕ) (st : c.State) (k j : ℕ) (p : c.Placement) (st' : c.State) → Held n st → c.step st k ≡ next j p st' → c.fits st' ≡ true
      → Held (n + 1 + (c.placed_at k j p).size) st'
  pub held_small : (n : ℕ) (st : c.State) → Held n st → n ≤ 4096
  pub size_small : (st : c.State) (k j : ℕ) (p : c.Placement) (st' : c.State) → c.step st k ≡ next j p st' → (c.placed_at k j p).size ≤ 4096
  -- the step by functions of the state and the kind byte: the argument's number, the placement, the next state
  pub number : c.State → ℕ → ℕ
  pub place : c.State → ℕ → c.Placement
  pub advance : c.State → ℕ → c.State
  pub stepped : (st : c.State) (k j : ℕ) (p : c.Placement) (st' : c.State) → c.step st k ≡ next j p st' → next j p st' ≡ next (number st k) (place st k) (advance st k)

module _ (c : Convention) where
  abbrev Limits : Step c.Placement c.State → Step c.Placement c.State → Type 0
  Limits s (refuse r j) = Unit {0}
  Limits s (next j p st') = (s ≡ next j p st') × (c.fits st' ≡ true)

  limits : (bodies : Bool) (left k : ℕ) (s : Step c.Placement c.State) → Limits s (limited c bodies left k s)
  limits bodies left k (refuse r j) = tt
  limits bodies left k (next j p st') = go (ltb left (body_length bodies (c.placed_at k j p).size)) (c.fits st') refl
    where
      go : (t u : Bool) → c.fits st' ≡ u → Limits (next j p st') (cond t (refuse 4 j) (cond u (next j p st') (refuse 5 j)))
      go true u e = tt
      go false false e = tt
      go false true e = (refl, e)

  -- a record that is taken was placed by the step, within the limit
  pub taken_stepped : (bodies : Bool) (left : ℕ) (st : c.State) (k : ℕ) {j : ℕ} {p : c.Placement} {st' : c.State} → taken c bodies left st k ≡ next j p st'
      → (c.step st k ≡ next j p st') × (c.fits st' ≡ true)
  taken_stepped bodies left st k e = subst (Limits (c.step st k)) e (limits bodies left k (c.step st k))
