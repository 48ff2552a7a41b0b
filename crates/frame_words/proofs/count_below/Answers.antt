-- `count_below` meets its contract: what the remainder keeps of the mask are the bits below k.
use Rattle.frame.proofs.Masks.{ones_count_below, count_below_le}
use Rattle.frame_words.proofs.Emit.{shift_power}
use Rattle.frame_words.proofs.count_below.Goals as goal

pub returns : goal.returns
returns c =
    let m = c.args.mask in
    let k = c.args.k in
    rw (shift_power k c.requires) (ones_count_below m k, rw ones_count_below (count_below_le m k))
