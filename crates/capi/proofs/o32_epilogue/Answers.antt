-- `o32_epilogue` meets its contract: the answer of the epilogue of the request that C hands over, in 32 bits.
use lib.ListN.{length}
use Rattle.capi.proofs.Bounds.{epilogue_fits}
use Rattle.capi.proofs.o32_epilogue.Goals as goal

pub narrowed-requires : goal.narrowed-requires
narrowed-requires c = epilogue_fits c.as_device.result c.as_request-request.result (length c.args.code.now) c.epilogue-answer.ensures.answer
