-- `o32_store::put_word` meets its contract: a word below offset 16 is one of the block, any other lies together in the area.
use mathlib.Core.Path.{◌≡◌}
use native.Mathlib.Omega.{arith}
use lib.ListN.{length}
use Rattle.words.specs.Words.{bytes_of}
use Rattle.o32_store.proofs.Image.{word_low, laid_high}
use Rattle.o32_store.proofs.put_word.Goals as goal

pub returns-then-o-lt16 : goal.returns-then-o-lt16
returns-then-o-lt16 c =
    let h : length c.args.block ≡ 8 = omega (arith, c.well_formed) in
    rw c.with_word.ensures (word_low c.args.block h c.args.out.now c.args.o c.args.w (omega arith) (omega arith))

pub returns : goal.returns
returns c =
    let h : length c.args.block ≡ 8 = omega (arith, c.well_formed) in
    laid_high c.args.block h c.args.out.now _ 4 c.args.o (bytes_of 4 c.args.w) (omega arith) c.write_word.ensures
