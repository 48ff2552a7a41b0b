-- `run_lines` is safe and ends: each line starts after the one before it.
use Rattle.std.proofs.Common.{◌-◌, length}
use Rattle.case_output.proofs.run_lines.Given as goal

abbrev pub decreases-loop-at : goal.decreases-loop-at
decreases-loop-at g l = length l.text - l.at
