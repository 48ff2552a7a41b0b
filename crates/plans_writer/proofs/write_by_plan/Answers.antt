-- `write_by_plan` meets its contract: the plan is that of the list's own signature.
use mathlib.Core.Path.{sym}
use native.Mathlib.Omega.{arith}
use lib.Seq.{length-take-le}
use Rattle.std.proofs.lemmas.Result.{err_from_is_err_and}
use Rattle.plans_writer.proofs.Once.{written_refused, signature_inside, plan_given, written_by_plan}
use Rattle.plans_writer.proofs.write_by_plan.Goals as goal

pub returns-in_err-n : goal.returns-in_err-n
returns-in_err-n c =
    let p = err_from_is_err_and c.from_residual.result c.from_residual.ensures.1 in
    let r = written_refused c.args.device c.args.list.now c.args.out.now (c.in_err-n.ensures.answer c.args.device) in
    record { answer = rw (p.1, p.2) r.answer; buffer = r.buffer }

pub slice_bounds-signature-end : goal.slice_bounds-signature-end
slice_bounds-signature-end c = omega (arith, signature_inside c.args.device c.args.list.now (c.in_ok-n.ensures.answer c.args.device), c.signature_of.auto.out)

pub slice_bounds-make_plan-end : goal.slice_bounds-make_plan-end
slice_bounds-make_plan-end c = sym (length-take-le _ _ (omega (arith, signature_inside c.args.device c.args.list.now (c.in_ok-n.ensures.answer c.args.device), c.signature_of.auto.out)))

pub returns-in_err-plan : goal.returns-in_err-plan
returns-in_err-plan c =
    absurd (plan_given c.args.device c.args.list.now (c.in_ok-n.ensures.answer c.args.device) (c.signature_of.ensures.buffer c.args.device) _ c.in_err-plan.ensures)

pub returns : goal.returns
returns c =
    let r = written_by_plan c.args.device c.args.list.now (c.in_ok-n.ensures.answer c.args.device) (c.signature_of.ensures.buffer c.args.device) c.args.out.now c.in_ok-plan.ensures c.fill.ensures.answer c.fill.ensures.buffer in
    record { answer = r.answer; buffer = r.buffer }
