-- `fill` meets its contract: at each turn, the bytes still to be stored make of the image what the whole list makes of it.
use native.Mathlib.Omega.{arith}
use mathlib.Core.Path.{refl}
use Rattle.passes.proofs.Filling.{fill_starts}
use Rattle.o32_laws.proofs.Premises.{O32-premises}
use Rattle.o32_step.proofs.Ahead.{ahead_placeable, ahead_fit}
use Rattle.o32_writer.proofs.Filling.{body_inside, argument-stored}
use borrow.Author.Rules.{rules}
use Rattle.o32_writer.proofs.fill.Goals as goal

pub loop-at-init : goal.loop-at-init
loop-at-init c = (refl, fill_starts (O32-premises c.args.device) _ c.start-st.ensures c.requires.admitted)

pub placement_of-placement-requires : goal.placement_of-placement-requires
placement_of-placement-requires c = ahead_placeable c.args.device c.loop-at.invariant.1.ahead c.from-kind.ensures

pub put_argument-changed-requires : goal.put_argument-changed-requires
put_argument-changed-requires c = record {
  fit = ahead_fit c.args.device c.loop-at.invariant.1.ahead c.from-kind.ensures c.placement_of-placement.ensures c.loop-at-test.true _ (omega (arith, c.loop-at.invariant.0));
  body_length = omega (arith, body_inside c.args.device c.loop-at.invariant.1 c.loop-at-test.true c.from-kind.ensures c.placement_of-placement.ensures);
}

pub advance-st-requires-clause-placeable : goal.advance-st-requires-clause-placeable
advance-st-requires-clause-placeable c = ahead_placeable c.args.device c.loop-at.invariant.1.ahead c.from-kind.ensures

pub loop-at-preserved : goal.loop-at-preserved
loop-at-preserved c =
    (search rules, argument-stored c.args.device c.loop-at.invariant.1 c.loop-at-test.true c.from-kind.ensures c.placement_of-placement.ensures c.advance-st.ensures (omega arith) c.put_argument-changed.ensures (omega arith))
