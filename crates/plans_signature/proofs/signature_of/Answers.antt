-- `signature_of` meets its contract: refused for a short buffer, or the kinds, on every device.
use native.Mathlib.Omega.{arith}
use Rattle.plans_signature.proofs.Answers.{whole_records, records_room, signature_short, signature_done}
use Rattle.plans_signature.proofs.signature_of.Goals as goal

pub count_records-n-requires : goal.count_records-n-requires
count_records-n-requires c = let s = c.args in whole_records s.list.now s.out.now c.measure_list.ensures c.in_ok-measure_list.was

pub returns-then-out-n : goal.returns-then-out-n
returns-then-out-n c =
    let s = c.args in
    let r = signature_short s.list.now s.out.now c.measure_list.ensures c.in_ok-measure_list.was c.count_records-n.ensures (omega arith) c.into.ensures in
    record { answer = λ d. (r d).answer; buffer = λ d. (r d).buffer }

pub copy_kinds-requires : goal.copy_kinds-requires
copy_kinds-requires c = let s = c.args in records_room s.list.now s.out.now c.measure_list.ensures c.in_ok-measure_list.was c.count_records-n.ensures (omega arith)

pub returns : goal.returns
returns c =
    let s = c.args in
    let r = signature_done s.list.now s.out.now c.measure_list.ensures c.in_ok-measure_list.was c.count_records-n.ensures (omega arith) c.copy_kinds.ensures in
    record { answer = λ d. (r d).answer; buffer = λ d. (r d).buffer }
