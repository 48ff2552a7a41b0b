-- `make_plan` meets its contract: refused for a short buffer, or the plan's words.
use Rattle.plans_words.proofs.Answers.{make_short, make_done}
use Rattle.plans_words.proofs.make_plan.Goals as goal

pub returns-then-out-lt98 : goal.returns-then-out-lt98
returns-then-out-lt98 c =
    let r = make_short c.args.device c.args.signature.now c.in_ok-plan_into.ensures.answer c.args.out.now c.if-out-lt98.true c.into.ensures in
    record { answer = r.answer; buffer = r.buffer }

pub returns : goal.returns
returns c =
    let r = make_done c.args.device c.args.signature.now c.in_ok-plan_into.ensures.answer c.args.out.now c.if-out-lt98.false c.put_plan.ensures in
    record { answer = r.answer; buffer = r.buffer }
