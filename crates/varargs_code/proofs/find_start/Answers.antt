-- `find_start` meets its contract: what is found from each kind on is what is found in the whole signature.
use Rattle.varargs_code.proofs.Seeking.{seek_starts, seek_ends, seek_found, seek_near, seek_kind, seek_on, aligned_near}
use Rattle.varargs_code.proofs.find_start.Goals as goal

pub loop-at-init : goal.loop-at-init
loop-at-init c = seek_starts c.requires

pub returns-then-is_class : goal.returns-then-is_class
returns-then-is_class c = seek_found c.loop-at.invariant c.loop-at-test.true c.from-kind.ensures c.is_class.ensures c.if-is_class.true

pub step_over-pointer-requires : goal.step_over-pointer-requires
step_over-pointer-requires c =
    let b = seek_kind c.loop-at.invariant c.loop-at-test.true c.from-kind.ensures c.is_class.ensures in
    (b.1, b.2, rw c.align_up-aligned.ensures (aligned_near b.0 (seek_near c.loop-at.invariant)))

pub loop-at-preserved : goal.loop-at-preserved
loop-at-preserved c =
    seek_on c.loop-at.invariant c.loop-at-test.true c.from-kind.ensures c.is_class.ensures c.if-is_class.false c.align_up-aligned.ensures c.step_over-pointer.ensures

pub returns : goal.returns
returns c = seek_ends c.loop-at.invariant c.loop-at-test.false
