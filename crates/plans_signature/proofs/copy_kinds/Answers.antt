-- `copy_kinds` meets its contract: what was copied, and the kinds of the records still ahead, are the whole signature.
use mathlib.Core.Path.{refl, ◌∙◌}
use native.Mathlib.Omega.{arith}
use lib.ListN.{length-set}
use Rattle.plans_signature.proofs.Passing.{pass_kind, pass_inside, copy_starts, copy_ends, copy_turn}
use Rattle.plans_signature.proofs.copy_kinds.Goals as goal

pub loop-at-init : goal.loop-at-init
loop-at-init c = (refl, λ sig r. copy_starts _ r)

pub bounds-out-n : goal.bounds-out-n
bounds-out-n c = omega (arith, (pass_kind ((c.loop-at.invariant.1 c.requires.0 c.requires.1).passing) c.loop-at-test.true).0, c.requires.2, c.loop-at.invariant.0)

pub after_record-at-requires : goal.after_record-at-requires
after_record-at-requires c = pass_inside ((c.loop-at.invariant.1 c.requires.0 c.requires.1).passing) c.loop-at-test.true

pub loop-at-preserved : goal.loop-at-preserved
loop-at-preserved c = (
  length-set c.loop-at.out c.loop-at.n _ ∙ c.loop-at.invariant.0,
  λ sig r. copy_turn (c.loop-at.invariant.1 sig r) c.loop-at-test.true (omega (arith, (pass_kind ((c.loop-at.invariant.1 c.requires.0 c.requires.1).passing) c.loop-at-test.true).0, c.requires.2)) c.after_record-at.ensures,
)

pub returns : goal.returns
returns c = λ sig r. copy_ends (c.loop-at.invariant.1 sig r) c.loop-at-test.false
