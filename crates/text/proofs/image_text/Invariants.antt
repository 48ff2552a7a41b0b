-- `image_text` meets its contract: so far the buffer has the lines of the first i words over its start.
use mathlib.Core.Path.{◌≡◌}
use Rattle.text.specs.Text.{lines}
use Rattle.text.proofs.Written.{overlay}
use Rattle.text.proofs.image_text.Given as goal

abbrev pub invariant-loop-i : goal.invariant-loop-i
invariant-loop-i l = (l.out ≡ overlay (lines l.image l.i) l.initial.out)
