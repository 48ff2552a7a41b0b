-- `take_bodies` meets its contract: what was taken, and what is still asked for, are the whole walk.
use mathlib.Core.Path.{refl, ap, ◌∙◌}
use mathlib.Core.List.{List, map}
use Prim.Native.Nat.{ℕ, ◌+◌, ◌-◌, ◌≤◌}
use native.Mathlib.Omega.{arith}
use borrow.Author.Rules.{rules}
use lib.ListN.{length}
use Rattle.places.specs.Places.{gather, run}
use Rattle.places.proofs.Stores.{part-length, run-written}
use Rattle.o32.specs.O32.{carrier}
use Rattle.varargs_code.proofs.Seeking.{aligned_near}
use Rattle.varargs_code.proofs.Taking.{take_starts, take_ends, take_near, take_kind, take_inside, take_on}
use Rattle.varargs_code.proofs.take_bodies.Goals as goal

pub loop-byte-init : goal.loop-byte-init
loop-byte-init c = (refl, take_starts _ c.requires.within c.requires.bodies_in_bounds)

pub get_plain-requires : goal.get_plain-requires
get_plain-requires c =
    let i = take_inside c.loop-byte.invariant.1 c.loop-byte-test.true c.from-kind.ensures in
    let l = part-length c.loop-byte.out c.loop-byte.n c.from-kind.result.size (omega (arith, i, c.loop-byte.invariant.0)) in
    record { in_bounds = (omega (arith, c.requires.in_bounds), omega (arith, l, i, c.width_of-width.ensures, c.align_up-aligned.ensures, c.requires.in_bounds)) }

pub step_over-pointer-requires : goal.step_over-pointer-requires
step_over-pointer-requires c =
    let b = take_kind c.loop-byte.invariant.1 c.loop-byte-test.true c.from-kind.ensures in
    (b.1, b.2, rw c.align_up-aligned.ensures (aligned_near b.0 (omega (arith, take_near c.loop-byte.invariant.1, c.requires.in_bounds))))

pub loop-byte-preserved : goal.loop-byte-preserved
loop-byte-preserved c =
    let i = take_inside c.loop-byte.invariant.1 c.loop-byte-test.true c.from-kind.ensures in
    let n = c.loop-byte.n in
    let out = c.loop-byte.out in
    let size = c.from-kind.result.size in
    let o = c.align_up-aligned.result + (c.width_of-width.result - size) in
    let read : ℕ → List ℕ = λ k. gather c.args.image.now (map carrier (run o k)) in
    let inside : n + size ≤ length out = omega (arith, i, c.loop-byte.invariant.0) in
    let written = run-written out n size inside c.get_plain.new.out (read size) c.get_plain.auto.out (c.get_plain.ensures ∙ ap read (part-length out n size inside)) in (
      search rules,
      take_on c.loop-byte.invariant.1 c.loop-byte-test.true c.from-kind.ensures c.requires.in_bounds.0 c.align_up-aligned.ensures c.width_of-width.ensures c.step_over-pointer.ensures written,
    )

pub returns : goal.returns
returns c = take_ends c.loop-byte.invariant.1 c.loop-byte-test.false
