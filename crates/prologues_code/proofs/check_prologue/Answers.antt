-- `check_prologue` meets its contract, by case: refused, a wrong length, judged.
use Rattle.std.proofs.Common.{◌≡◌, sym, ap, ◌∙◌, Result, Ok, Err, IsErrAnd, ℕ, List}
use Rattle.answers.specs.declared.Cause.{Cause}
use Rattle.device.specs.declared.Device.{Device}
use Rattle.frame.specs.declared.Request.{Request}
use Rattle.frame.specs.Frame.{layout_of}
use Rattle.frame.specs.Layout.{layout_in_numbers}
use Rattle.frame_code.proofs.Answers.{areas, cause-is, cause-refused}
use Rattle.prologues.specs.declared.Finding.{Finding}
use Rattle.prologues.specs.Verdict.{verdict_in_numbers}
use Rattle.prologues.specs.Checking.{refused_with, checked}
use Rattle.prologues.proofs.Answers.{checked_refused}
use Rattle.prologues_code.proofs.check_prologue.Goals as goal

refused-is : (d : Device) (r : Request) (code : List ℕ) (c : Cause) (x : Result Finding Cause) → layout_in_numbers (Err c) ≡ layout_of d r → IsErrAnd x (λ e. e ≡ c)
    → verdict_in_numbers x ≡ checked d r code
refused-is d r code c (Err e) l h = rw h (ap refused_with (cause-is d r c l) ∙ sym (checked_refused _ _ _ (cause-refused d r c l)))
refused-is d r code c (Ok f) l h = absurd h

pub returns-in_err-frame-clause-answer : goal.returns-in_err-frame-clause-answer
returns-in_err-frame-clause-answer c = refused-is _ _ _ _ _ c.in_err-frame.ensures c.from_residual.ensures.1

-- not refused
pub invariant_of-judge : goal.invariant_of-judge
invariant_of-judge c = record { areas = areas _ _ _ c.in_ok-frame.ensures }
