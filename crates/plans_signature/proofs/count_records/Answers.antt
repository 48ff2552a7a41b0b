-- `count_records` meets its contract: what was counted, and the records still ahead, are the whole signature.
use Rattle.plans_signature.proofs.Passing.{pass_starts, pass_ends, pass_inside, pass_turn}
use Rattle.plans_signature.proofs.count_records.Goals as goal

pub loop-at-init : goal.loop-at-init
loop-at-init c = λ sig r. pass_starts r

pub after_record-at-requires : goal.after_record-at-requires
after_record-at-requires c = pass_inside (c.loop-at.invariant c.requires.0 c.requires.1) c.loop-at-test.true

pub loop-at-preserved : goal.loop-at-preserved
loop-at-preserved c = λ sig r. pass_turn (c.loop-at.invariant sig r) c.loop-at-test.true c.after_record-at.ensures

pub returns : goal.returns
returns c = λ sig r. pass_ends (c.loop-at.invariant sig r) c.loop-at-test.false
