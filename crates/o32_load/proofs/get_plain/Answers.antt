-- `o32_load::get_plain` meets its contract: the bytes lie together in the area, or in the register words, or are split at offset 16.
use mathlib.Core.Path.{ap, ◌∙◌}
use Prim.Native.Nat.{ℕ, ◌+◌}
use native.Mathlib.Omega.{arith}
use lib.ListN.{length, take, drop}
use Rattle.o32_load.proofs.Parts.{gather_low, gather_high, gather_split}
use Rattle.o32_load.proofs.get_plain.Goals as goal

pub returns-then-o-ge16 : goal.returns-then-o-ge16
returns-then-o-ge16 c =
    let a = c.args in
    rw (gather_high a.image.now (length a.out.now) a.o (omega arith) (omega arith)) (c.copy.ensures ∙ ap (λ (n : ℕ). take n (drop (32 + a.o) a.image.now)) (omega arith))

pub returns-then-size-low : goal.returns-then-size-low
returns-then-size-low c =
    let a = c.args in
    rw (gather_low a.image.now (length a.out.now) a.o (omega arith) (omega arith)) (c.copy-then-size-low.ensures ∙ ap (λ (n : ℕ). take n (drop a.o a.image.now)) (omega arith))

pub returns : goal.returns
returns c =
    let a = c.args in
    gather_split a.image.now (length a.out.now) a.o (omega arith) (omega arith) (omega (arith, c.requires)) c.copy-2.ensures (c.copy-3.ensures ∙ ap (λ (n : ℕ). take n (drop 48 a.image.now)) (omega arith))
