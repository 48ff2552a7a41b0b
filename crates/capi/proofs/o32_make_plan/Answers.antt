-- `o32_make_plan` meets its contract: the answer of `make_plan` in 32 bits.
use lib.ListN.{length}
use Rattle.capi.proofs.Bounds.{make_fits}
use Rattle.capi.proofs.o32_make_plan.Goals as goal

pub narrowed-requires : goal.narrowed-requires
narrowed-requires c = make_fits c.as_device.result c.args.signature.now (length c.args.plan.now) c.make_plan-answer.ensures.answer
