-- `o32_fill` meets its contract: the answer of `fill` in 32 bits.
use lib.ListN.{length}
use Rattle.capi.proofs.Bounds.{fill_fits}
use Rattle.capi.proofs.o32_fill.Goals as goal

pub narrowed-requires : goal.narrowed-requires
narrowed-requires c = fill_fits c.as_device.result c.args.plan.now c.args.list.now (length c.args.image.now) c.fill-answer.ensures.answer
