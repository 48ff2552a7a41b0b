-- `put_series` meets its contract: after what is stored so far comes the rest of the series, which starts with the next byte.
use Rattle.std.proofs.Common.{◌≡◌, ◌-◌, ◌++◌, length, take}
use Rattle.case_input.specs.Lines.{series}
use Rattle.case_input.proofs.put_series.Given as goal

abbrev pub invariant-loop-b : goal.invariant-loop-b
invariant-loop-b l = take l.b-index l.out ++ series l.byte l.step (length l.out - l.b-index) ≡ series l.first l.step (length l.out)
