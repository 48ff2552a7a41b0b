-- `lay` meets its contract: what the three passes leave is the image.
use Rattle.o32_writer.proofs.Laying.{cleared, laid}
use Rattle.o32_writer.proofs.lay.Goals as goal

pub returns : goal.returns
returns c =
    let a = c.requires.admitted in
    laid c.args.device c.args.list.now c.args.out.now c.args.n a _ _ _
    (cleared c.args.device c.args.list.now c.args.out.now c.args.n a c.requires.n_in_bounds (c.fill.ensures.after (λ y e. e))) c.fill-block.ensures c.write_block.ensures
