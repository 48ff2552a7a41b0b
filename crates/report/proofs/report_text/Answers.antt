-- `report_text` meets its contract: the writer's answer says which text it is, and the text fits.
use native.Mathlib.Omega.{arith}
use lib.ListN.{replicate}
use Rattle.report.proofs.Fits.{report_stored, report_answered, report_length, refusal_reported, image_reported}
use Rattle.report.proofs.report_text.Goals as goal

pub unwrap-requires : goal.unwrap-requires
unwrap-requires c =
    let w = c.write_by_plan-answer.ensures in
    report_answered c.args.list.now _ c.args.out.now (omega arith)
    (image_reported c.args.list.now _ w.answer (replicate 1056 0) w.buffer c.in-Ok.is) c.image_text.ensures.value

pub unwrap-requires-in-Err : goal.unwrap-requires-in-Err
unwrap-requires-in-Err c =
    let w = c.write_by_plan-answer.ensures in
    report_answered c.args.list.now _ c.args.out.now (omega arith)
    (refusal_reported c.args.list.now _ w.answer c.in-Err.is c.number.ensures) c.refusal_text.ensures.value

pub returns-in-Ok-clause-value : goal.returns-in-Ok-clause-value
returns-in-Ok-clause-value c =
    let w = c.write_by_plan-answer.ensures in
    report_length c.args.list.now _ c.args.out.now (omega arith)
    (image_reported c.args.list.now _ w.answer (replicate 1056 0) w.buffer c.in-Ok.is) c.image_text.ensures.value c.unwrap.ensures

pub returns-in-Ok-clause-out_after : goal.returns-in-Ok-clause-out_after
returns-in-Ok-clause-out_after c =
    let w = c.write_by_plan-answer.ensures in
    report_stored c.args.list.now _ c.args.out.now (omega arith)
    (image_reported c.args.list.now _ w.answer (replicate 1056 0) w.buffer c.in-Ok.is) c.image_text.ensures.out_after

pub returns-in-Err-clause-value : goal.returns-in-Err-clause-value
returns-in-Err-clause-value c =
    let w = c.write_by_plan-answer.ensures in
    report_length c.args.list.now _ c.args.out.now (omega arith)
    (refusal_reported c.args.list.now _ w.answer c.in-Err.is c.number.ensures) c.refusal_text.ensures.value c.unwrap-in-Err.ensures

pub returns-in-Err-clause-out_after : goal.returns-in-Err-clause-out_after
returns-in-Err-clause-out_after c =
    let w = c.write_by_plan-answer.ensures in
    report_stored c.args.list.now _ c.args.out.now (omega arith)
    (refusal_reported c.args.list.now _ w.answer c.in-Err.is c.number.ensures) c.refusal_text.ensures.out_after
