-- `plan_into` meets its contract: refused by record, or the plan of what was accepted.
use Rattle.passes.proofs.Answers.{was_accepted}
use Rattle.o32.specs.O32.{O32}
use Rattle.plans_own.proofs.plan_into.Goals as goal

pub put_plan-requires-clause-admitted : goal.put_plan-requires-clause-admitted
put_plan-requires-clause-admitted c = (was_accepted (O32 c.args.device) c.args.bodies c.args.bytes.now (c.measure.ensures c.args.device) c.in_ok-found.was).admitted
