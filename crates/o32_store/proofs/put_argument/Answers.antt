-- `put_argument` meets its contract, by the argument's register and class.
use mathlib.Core.Path.{◌≡◌}
use native.Mathlib.Omega.{arith}
use lib.ListN.{length}
use Rattle.o32_store.proofs.Floats.{float_whole}
use Rattle.o32_store.proofs.Arguments.{float_argument}
use Rattle.o32_store.proofs.put_argument.Goals as goal

pub returns-then-place-ne0 : goal.returns-then-place-ne0
returns-then-place-ne0 c =
    let f = c.requires.fit.floating (omega arith) in
    let h : length c.args.block ≡ 8 = omega (arith, c.well_formed) in
    float_argument c.args.place _ _ _ c.if-place-ne0.true f.0
    (float_whole c.args.block c.put_float.result c.args.out.now _ h f.1 (rw c.requires.body_length at c.put_float.ensures))
