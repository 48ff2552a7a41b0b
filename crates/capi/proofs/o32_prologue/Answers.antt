-- `o32_prologue` meets its contract: the answer of the prologue of the request that C hands over, in 32 bits.
use lib.ListN.{length}
use Rattle.capi.proofs.Bounds.{prologue_fits}
use Rattle.capi.proofs.o32_prologue.Goals as goal

pub narrowed-requires : goal.narrowed-requires
narrowed-requires c = prologue_fits c.as_device.result c.as_request-request.result (length c.args.code.now) c.prologue-answer.ensures.answer
