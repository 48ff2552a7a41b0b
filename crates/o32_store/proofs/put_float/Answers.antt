-- `put_float` meets its contract: a single is stored into the word of its register, a double into those of two registers, in the
-- order of its bytes.
use mathlib.Core.Path.{◌≡◌}
use native.Mathlib.Omega.{arith}
use lib.ListN.{length}
use Rattle.o32_laws.proofs.Fitting.{float_bounds, single_size}
use Rattle.o32_store.proofs.Floats.{one_register, two_registers}
use Rattle.o32_store.proofs.put_float.Goals as goal

pub returns-then-body-eq8 : goal.returns-then-body-eq8
returns-then-body-eq8 c =
    let words : length c.args.block ≡ 8 = omega (arith, c.well_formed) in
    let inside = float_bounds c.requires in
    rw c.if-body-eq8.true
    (two_registers c.args.block c.args.body.now words _ _ _ (omega arith) (omega arith) (omega arith) c.word_at-first.ensures
    _ _ _ (omega arith) (omega arith) (omega arith) c.word_at-second.ensures c.if-body-eq8.true)

pub returns : goal.returns
returns c =
    let words : length c.args.block ≡ 8 = omega (arith, c.well_formed) in
    let inside = float_bounds c.requires in
    let single = single_size c.requires c.if-body-eq8.false in
    rw single (one_register c.args.block c.args.body.now words _ _ _ (omega arith) (omega arith) (omega arith) c.word_at-first.ensures single)
