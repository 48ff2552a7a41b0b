-- `number_at` meets its contract: the digits that were passed make the value.
use Rattle.std.proofs.Common.{◌≡◌, ◌+◌, ◌≤◌, drop}
use Rattle.case_input.specs.Lines.{number_from}
use Rattle.case_input.proofs.number_at.Given as goal

abbrev pub invariant-loop-c : goal.invariant-loop-c
invariant-loop-c l =
    (l.end ≡ l.from + l.c-index) × (l.value ≤ 9999) × (number_from l.value l.end (drop l.end l.text) ≡ number_from 0 l.from (drop l.from l.text))
