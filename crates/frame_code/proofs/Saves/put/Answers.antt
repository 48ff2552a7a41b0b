-- `put` meets its contract: the registers stand after the pairs.
use Rattle.std.proofs.Common.{arith}
use Rattle.frame.proofs.Accepted.{savable_masks, low_general}
use Rattle.frame.proofs.Collect.{length_saves}
use Rattle.frame_code.proofs.Bytes.{saves_put}
use Rattle.frame_code.proofs.Saves.put.Goals as goal

pub put_registers-requires-clause-mask_value : goal.put_registers-requires-clause-mask_value
put_registers-requires-clause-mask_value c = low_general (savable_masks c.args.self.request c.args.self.areas.masks)

pub returns-clause-out_after : goal.returns-clause-out_after
returns-clause-out_after c =
    let s = c.args.self in
    let p = c.put_pairs-next.ensures in
    saves_put _ _ s.request _ _ _ _ _ (rw s.areas.floating at p.out_after) p.value (rw s.areas.general at c.put_registers.ensures.out_after)
