-- `o32_walk` meets its contract: the walker's answer in 32 bits.
use lib.ListN.{length}
use Rattle.capi.proofs.Bounds.{walk_fits}
use Rattle.capi.proofs.o32_walk.Goals as goal

pub narrowed-requires : goal.narrowed-requires
narrowed-requires c =
    let s = c.args in
    walk_fits c.as_device.result s.signature.now s.image.now (length s.bodies.now) c.walk-answer.ensures.answer
