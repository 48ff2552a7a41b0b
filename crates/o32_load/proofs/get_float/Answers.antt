-- `o32_load::get_float` meets its contract: a single is read from the word of its register, a double
-- from those of two registers, in the order of its bytes.
use mathlib.Core.Path.{ap, ◌∙◌}
use Prim.Native.Nat.{ℕ, ◌+◌, ◌-◌, ◌*◌}
use native.Mathlib.Omega.{arith}
use lib.ListN.{take, drop}
use Rattle.o32_laws.proofs.Fitting.{float_bounds}
use Rattle.o32_load.proofs.Parts.{gather_registers}
use Rattle.o32_load.proofs.get_float.Goals as goal

pub returns-then-out-eq8 : goal.returns-then-out-eq8
returns-then-out-eq8 c =
    let f = c.args.register in
    let img = c.args.image.now in
    let even = 4 * f - 32 in
    let inside = float_bounds c.requires.floating in
    rw c.if-out-eq8.true
    (gather_registers img (f + 1) f {p = even + 4} {q = even} (omega arith) (omega arith) (omega arith) (omega arith)
    (c.copy.ensures ∙ ap (λ (n : ℕ). take n (drop (even + 4) img)) {y = 4} (omega arith)) (c.copy-then-out-eq8.ensures ∙ ap (λ (n : ℕ). take n (drop even img)) {y = 4} (omega arith)))
