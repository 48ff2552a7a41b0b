-- Runs of straight-line code, word by word.
-- Assumes nothing.
use mathlib.Core.Path.{◌≡◌, ap, refl, ◌∙◌}
use mathlib.Core.List.{List, [], ◌∷◌}
use mathlib.Core.Option.{Option, some}
use Prim.Native.Nat.{ℕ}
use lib.ListN.{length}
use Rattle.machine.specs.Machine.{State, step, continue_with, run, Runs}

module _ {code : ℕ → ℕ} {s : State} {Then : State → Type 0} where
  pub runs_end : Then s → Runs code [] s Then
  unfolding run
  runs_end h = record { last = s; ran = refl; holds = h }

  pub runs_step : {w : ℕ} {ws : List ℕ} {t : State} → step code s ≡ some t → Runs code ws t Then → Runs code (w ∷ ws) s Then
  unfolding run
  runs_step {ws = ws} e r =
      record { last = r.last; ran = ap (λ (o : Option State). continue_with o (run (length ws) code)) e ∙ r.ran; holds = r.holds }
