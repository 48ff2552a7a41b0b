-- What holds of the scan of every list and signature, in every convention, by its first record: induction along `from`.
-- Assumes nothing.
use mathlib.Core.Path.{◌≡◌, refl, ◌∙◌}
use mathlib.Core.List.{List, [], ◌∷◌}
use mathlib.Core.Bool.{Bool, true, false, cond}
use Prim.Native.Nat.{ℕ, zero, suc, ◌≤◌}
use lib.ListN.{length}
use lib.Dec.{ltb}
use borrow.Author.Tests.{ltb-false}
use Rattle.carried.specs.Convention.{Step, refuse, next, Convention, Scan, stopped, complete, prepend, body_length, limited, taken, proceed, scan_from}
use Rattle.words.proofs.Impossible.{impossible}

module _ (c : Convention) (bodies : Bool) where
  -- a kind byte that is refused: by the step, or by its limits (4 and 5) as the argument that the step has placed
  pub data Stops (st : c.State) (k r j : ℕ) : Type 0 where
    by_step : c.step st k ≡ refuse r j → Stops st k r j
    by_limits : (p : c.Placement) (st' : c.State) → c.step st k ≡ next j p st' → Stops st k r j

  pub stops : (left : ℕ) (st : c.State) (k r j : ℕ) → taken c bodies left st k ≡ refuse r j → Stops st k r j
  stops left st k r j e = go (c.step st k) refl e
    where
      go : (s : Step c.Placement c.State) → c.step st k ≡ s → limited c bodies left k s ≡ refuse r j → Stops st k r j
      go (refuse r' j') f g = by_step (f ∙ g)
      go (next j' p st') f g = tests (ltb left (body_length bodies (c.placed_at k j' p).size)) (c.fits st') g
        where
          tests : (t u : Bool) → cond t (refuse 4 j') (cond u (next j' p st') (refuse 5 j')) ≡ refuse r j → Stops st k r j
          tests true u h = let i : j' ≡ j = cc in by_limits p st' (f ∙ rw i refl)
          tests false false h = let i : j' ≡ j = cc in by_limits p st' (f ∙ rw i refl)
          tests false true h = impossible (cc)

  module _ (P : ℕ → ℕ → c.State → List ℕ → Scan c.State → Type 0)
      (none : (at n : ℕ) (st : c.State) → P at n st [] (complete [] st))
      (pass : (b at n : ℕ) (st : c.State) (l : List ℕ) (q : Scan c.State) → P (suc at) n st l q → P at (suc n) st (b ∷ l) q)
      (stop : (at : ℕ) (st : c.State) (k : ℕ) (l : List ℕ) (r j : ℕ) → taken c bodies (length l) st k ≡ refuse r j → P at 0 st (k ∷ l) (stopped r at j))
      (join : (at : ℕ) (st : c.State) (k : ℕ) (l : List ℕ) (j : ℕ) (p : c.Placement) (st' : c.State) → c.step st k ≡ next j p st' → c.fits st' ≡ true
      → body_length bodies (c.placed_at k j p).size ≤ length l → (q : Scan c.State) → P (suc at) (body_length bodies (c.placed_at k j p).size) st' l q
      → P at 0 st (k ∷ l) (prepend (c.placed_at k j p) q)) where
    pub by_records : (l : List ℕ) (at n : ℕ) (st : c.State) → P at n st l (scan_from c bodies at st n l)
    by_records [] at n st = none at n st
    by_records (b ∷ l) at (suc n) st = pass b at n st l (scan_from c bodies (suc at) st n l) (by_records l (suc at) n st)
    by_records (k ∷ l) at zero st = go (c.step st k) refl (λ n st'. by_records l (suc at) n st')
      where
        fit : (j : ℕ) (p : c.Placement) (st' : c.State) → c.step st k ≡ next j p st' → (t u : Bool) → ltb (length l) (body_length bodies (c.placed_at k j p).size) ≡ t → c.fits st' ≡ u
            → ((n : ℕ) (st'' : c.State) → P (suc at) n st'' l (scan_from c bodies (suc at) st'' n l))
            → P at 0 st (k ∷ l) (proceed c at k (cond t (refuse 4 j) (cond u (next j p st') (refuse 5 j))) (λ size st''. scan_from c bodies (suc at) st'' (body_length bodies size) l))
        fit j p st' e true u f g w = stop at st k l 4 j (rw (e, f))
        fit j p st' e false false f g w = stop at st k l 5 j (rw (e, f, g))
        fit j p st' e false true f g w =
            let n : ℕ = body_length bodies (c.placed_at k j p).size in
            join at st k l j p st' e g (ltb-false (length l) n f) (scan_from c bodies (suc at) st' n l) (w n st')

        go : (s : Step c.Placement c.State) → c.step st k ≡ s → ((n : ℕ) (st' : c.State) → P (suc at) n st' l (scan_from c bodies (suc at) st' n l))
            → P at 0 st (k ∷ l) (proceed c at k (limited c bodies (length l) k s) (λ size st'. scan_from c bodies (suc at) st' (body_length bodies size) l))
        go (refuse r j) e w = stop at st k l r j (rw e)
        go (next j p st') e w = fit j p st' e (ltb (length l) (body_length bodies (c.placed_at k j p).size)) (c.fits st') refl refl w
