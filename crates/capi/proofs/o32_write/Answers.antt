-- `o32_write` meets its contract: the writer's answer in 32 bits.
use lib.ListN.{length}
use Rattle.capi.proofs.Bounds.{write_fits}
use Rattle.capi.proofs.o32_write.Goals as goal

pub narrowed-requires : goal.narrowed-requires
narrowed-requires c =
    let s = c.args in
    write_fits c.as_device.result s.list.now (length s.image.now) c.write-answer.ensures.answer
