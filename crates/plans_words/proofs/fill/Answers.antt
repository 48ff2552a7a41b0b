-- `fill` meets its contract: what is compared with the words is the plan of the list.
use Rattle.plans_words.proofs.Answers.{own_zero_past}
use Rattle.plans_words.proofs.fill.Goals as goal

pub is_plan-agrees-requires : goal.is_plan-agrees-requires
is_plan-agrees-requires c = own_zero_past c.args.device c.args.list.now c.in_ok-plan_into.ensures.answer
