-- `check` meets its contract: what is found from each kind on is what the whole signature finds.
use native.Mathlib.Omega.{arith}
use Rattle.passes.proofs.Reading.{check_starts}
use Rattle.o32_laws.proofs.Premises.{O32-premises}
use Rattle.o32_step.proofs.Ahead.{ahead_placeable, ahead_fit}
use Rattle.o32_reader.proofs.Turns.{word_improper, word-proper}
use Rattle.o32_reader.proofs.check.Goals as goal

pub loop-at-init : goal.loop-at-init
loop-at-init c = check_starts (O32-premises c.args.device) c.start-st.ensures c.requires

pub placement_of-here-requires : goal.placement_of-here-requires
placement_of-here-requires c = ahead_placeable c.args.device c.loop-at.invariant.ahead c.from-kind.ensures

pub is_proper-requires : goal.is_proper-requires
is_proper-requires c =
    ahead_fit c.args.device c.loop-at.invariant.ahead c.from-kind.ensures c.placement_of-here.ensures c.loop-at-test.true _ (omega arith)

pub returns-then-not-is_proper : goal.returns-then-not-is_proper
returns-then-not-is_proper c =
    word_improper c.args.device c.loop-at.invariant c.loop-at-test.true c.from-kind.ensures c.placement_of-here.ensures c.is_proper.ensures
    c.if-not-is_proper.true c.argument_of.ensures

pub loop-at-preserved : goal.loop-at-preserved
loop-at-preserved c =
    word-proper c.args.device c.loop-at.invariant c.loop-at-test.true c.from-kind.ensures c.placement_of-here.ensures c.is_proper.ensures
    c.if-not-is_proper.false c.advance-st.ensures
