-- `put_bytes` meets its contract: so far the first i bytes are laid.
use Rattle.std.proofs.Common.{◌≡◌, ◌+◌, ◌*◌, ◌++◌, ◌≤◌, take}
use Rattle.case_output.specs.AnswerText.{bytes_text}
use Rattle.case_output.proofs.put_bytes.Given as goal

abbrev pub invariant-loop-i : goal.invariant-loop-i
invariant-loop-i l = (l.end ≤ l.at + 4 * l.i) × (take l.end l.text ≡ take l.at l.initial.text ++ bytes_text l.bytes l.i)
