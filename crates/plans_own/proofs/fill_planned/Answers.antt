-- `fill_planned` meets its contract: refused as the list is, refused for a plan that differs or a short buffer, or written.
use native.Mathlib.Omega.{arith}
use Rattle.plans_own.proofs.Answers.{own_accepted, plan_differs, filled_short, filled_done}
use Rattle.plans_own.proofs.fill_planned.Goals as goal

pub returns-then-not-agrees : goal.returns-then-not-agrees
returns-then-not-agrees c =
    let r = plan_differs c.args.device c.args.list.now c.requires c.args.out.now c.if-not-agrees.true c.into.ensures in
    record { answer = r.answer; buffer = r.buffer }

pub returns-then-out-image : goal.returns-then-out-image
returns-then-out-image c =
    let r = filled_short c.args.device c.args.list.now c.requires c.args.out.now c.if-not-agrees.false (omega arith) c.into-then-out-image.ensures in
    record { answer = r.answer; buffer = r.buffer }

pub lay-requires-clause-admitted : goal.lay-requires-clause-admitted
lay-requires-clause-admitted c = (own_accepted c.args.device c.args.list.now c.requires).admitted

pub returns : goal.returns
returns c =
    let r = filled_done c.args.device c.args.list.now c.requires c.args.out.now c.if-not-agrees.false (omega arith) c.lay.ensures in
    record { answer = r.answer; buffer = r.buffer }
