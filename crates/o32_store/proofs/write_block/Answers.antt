-- `write_block` meets its contract: so far the first i words lie at the front of the buffer.
use mathlib.Core.Path.{◌≡◌, ◌∙◌}
use native.Mathlib.Omega.{arith}
use lib.ListN.{length}
use Rattle.o32_store.proofs.Image.{word_next}
use Rattle.o32_store.proofs.write_block.Goals as goal

pub loop-i-preserved : goal.loop-i-preserved
loop-i-preserved c =
    let l = c.loop-i in
    let h : length c.args.block ≡ 8 = omega (arith, c.well_formed) in
    c.write_word.ensures ∙ rw l.invariant (word_next c.args.block c.args.out.now l.i (omega arith) (omega arith))
