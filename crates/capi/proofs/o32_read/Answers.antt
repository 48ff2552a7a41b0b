-- `o32_read` meets its contract: the reader's answer in 32 bits.
use lib.ListN.{length}
use Rattle.capi.proofs.Bounds.{read_fits}
use Rattle.capi.proofs.o32_read.Goals as goal

pub narrowed-requires : goal.narrowed-requires
narrowed-requires c =
    let s = c.args in
    read_fits c.as_device.result s.signature.now s.image.now (length s.list.now) c.read-answer.ensures.answer
