-- The state after some kinds counts their arguments, and so does the argument's number that a step reports, on every device.
-- Assumes nothing.
use mathlib.Core.Path.{◌≡◌, refl, ap, ◌∙◌}
use mathlib.Core.List.{List, [], ◌∷◌, ◌++◌}
use mathlib.Core.Bool.{Bool, true, false, cond}
use Prim.Native.Nat.{ℕ, ◌+◌}
use native.Mathlib.Omega.{arith}
use lib.ListN.{length}
use Rattle.device.specs.declared.Device.{Device}
use Rattle.carried.specs.Image.{Placed}
use Rattle.carried.specs.Convention.{complete, scan}
use Rattle.carried.proofs.Walks.{Walk, end, one}
use Rattle.kinds.specs.declared.Class.TheVariants.{Marker}
use Rattle.kinds.specs.declared.Kind.{Kind}
use Rattle.o32.specs.declared.State.{State}
use Rattle.kinds.specs.Kinds.{kind_of, is}
use Rattle.rules.specs.Rules.{argument}
use Rattle.o32.specs.O32.{advance, start, O32}
use Rattle.o32_laws.specs.Refusing.{arguments_in, argument_after}
use Rattle.o32_laws.proofs.Laws.{O32-laws}
use Rattle.o32_laws.proofs.Steps.{step-described}
use Rattle.o32_laws.proofs.Carrying.{reach, placed-after}

-- ---- the arguments before

advance-count : (st : State) (k : Kind) → (advance st k).prefix.count ≡ st.prefix.count + cond (is Marker k) 0 1
advance-count st k = go (is Marker k) refl
  where
    go : (t : Bool) → is Marker k ≡ t → (advance st k).prefix.count ≡ st.prefix.count + cond (is Marker k) 0 1
    go true e = rw e (omega arith)
    go false e = rw e

pub reach-count : (st : State) (ks : List ℕ) → (reach st ks).prefix.count ≡ st.prefix.count + arguments_in ks
reach-count st [] = omega arith
reach-count st (k ∷ ks) = omega (arith, reach-count (advance st (kind_of k)) ks, advance-count st (kind_of k))

-- the number of a kind after others
pub number_after : (before : List ℕ) (k : ℕ) → argument (reach start before).prefix (kind_of k) ≡ argument_after before k
number_after before k =
    let n : (reach start before).prefix.count ≡ arguments_in before = reach-count start before ∙ omega arith in
    rw n

module _ (d : Device) where
  -- Of every record of every accepted signature the step reports the number that the kinds before give it.
  pub placed-names : (before : List ℕ) (k : ℕ) (after : List ℕ) (L : List Placed) (last : State) → scan (O32 d) false (before ++ (k ∷ after)) ≡ complete L last
      → (M : List Placed) (s : Placed) (N : List Placed) → L ≡ M ++ (s ∷ N) → length M ≡ length before → s.argument ≡ argument_after before k
  placed-names before k after L last ok M s N e h =
      ap (λ (x : Placed). x.argument) (placed-after d before k after L last ok M s N e h) ∙ number_after before k

  -- a walk leads to the state after its kinds
  pub walk-reach : {st last : State} {ks : List ℕ} {L : List Placed} → Walk (O32 d) (O32-laws d) st ks L last → last ≡ reach st ks
  walk-reach end = refl
  walk-reach (one {st = st} {st' = st'} {k = k} {j = j} {p = p} {ks = ks} e f w) = walk-reach w ∙ ap (λ (x : State). reach x ks) (step-described d st k j p st' e).on
