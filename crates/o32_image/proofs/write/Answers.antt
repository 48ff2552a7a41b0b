-- `write` meets its contract: refused by record, refused for a short buffer, or written.
use mathlib.Core.Bool.{true}
use native.Mathlib.Omega.{arith}
use Rattle.passes.proofs.Answers.{passed_on, was_accepted, write-refused, write_short, write_done}
use Rattle.o32.specs.O32.{O32}
use Rattle.o32_image.proofs.write.Goals as goal

pub returns-in_err-image : goal.returns-in_err-image
returns-in_err-image c =
    let a = c.args in
    let r = passed_on _ c.from_residual.ensures.1 (write-refused (O32 a.device) a.list.now a.out.now (c.measure_list.ensures a.device) c.in_err-image.was) in
    record { answer = r.answer; buffer = r.buffer }

pub returns-then-out-image : goal.returns-then-out-image
returns-then-out-image c =
    let a = c.args in
    let v = was_accepted (O32 a.device) true a.list.now (c.measure_list.ensures a.device) c.in_ok-image.was in
    let r = write_short (O32 a.device) a.list.now a.out.now v (omega arith) in
    record { answer = rw c.into.ensures r.answer; buffer = r.buffer }

pub lay-requires-clause-admitted : goal.lay-requires-clause-admitted
lay-requires-clause-admitted c =
    (was_accepted (O32 c.args.device) true c.args.list.now (c.measure_list.ensures c.args.device) c.in_ok-image.was).admitted

pub returns : goal.returns
returns c =
    let a = c.args in
    let v = was_accepted (O32 a.device) true a.list.now (c.measure_list.ensures a.device) c.in_ok-image.was in
    let r = write_done (O32 a.device) a.list.now a.out.now v c.if-out-image.false c.lay.ensures in
    record { answer = r.answer; buffer = r.buffer }
