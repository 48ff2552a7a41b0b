-- `length` meets its contract: the counts are those of the masks.
use native.Mathlib.Omega.{arith}
use Rattle.frame.proofs.Accepted.{savable_masks, counted}
use Rattle.frame.proofs.Collect.{length_saves}
use Rattle.frame_code.proofs.Saves.length.Goals as goal

pub returns : goal.returns
returns c =
    let r = c.args.self.request in
    let s = counted (savable_masks r c.args.self.areas.masks) in
    (omega (arith, length_saves r), omega arith)
