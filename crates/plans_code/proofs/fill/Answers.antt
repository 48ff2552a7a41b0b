-- `fill` meets its contract: what is compared with the plan is the plan of the list.
use mathlib.Core.Path.{refl}
use native.Mathlib.Omega.{arith}
use Rattle.plans.specs.Plans.{numbers}
use Rattle.plans_own.proofs.Answers.{fill_compared}
use Rattle.plans_code.proofs.Answers.{same_parts, set_alike}
use Rattle.plans_code.proofs.fill.Goals as goal

pub returns : goal.returns
returns c =
    let s = c.args in
    let own = c.in_ok-own.own in
    let r = fill_compared s.device (numbers s.plan) s.list.now s.out.now c.in_ok-own.ensures (same_parts s.plan own c.eq-agrees.ensures (search (arith, set_alike)) refl refl) c.fill_own.ensures.answer c.fill_own.ensures.buffer in
    record { answer = r.answer; buffer = r.buffer }
