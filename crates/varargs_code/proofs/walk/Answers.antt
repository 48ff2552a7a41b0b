-- `walk` meets its contract: each refusal in its order, or the bodies.
use native.Mathlib.Omega.{arith}
use Rattle.passes.proofs.Reading.{improper_keeps, proper_delivers}
use Rattle.passes.proofs.Answers.{passed_on, image-wrong, image_admitted, image_short, image_improper, image_done}
use Rattle.varargs_code.proofs.Answers.{walk_refused, walk_before, walk_bytes, walk_delivers, walk_inside, walk-area}
use Rattle.varargs_code.proofs.walk.Goals as goal

pub returns-in_err-measured : goal.returns-in_err-measured
returns-in_err-measured c =
    let s = c.args in
    let r = passed_on _ c.from_residual.ensures.1 (walk_refused s.device s.signature.now s.image.now s.out.now (c.measure_signature.ensures s.device) c.in_err-measured.was) in
    record { answer = r.answer; buffer = r.buffer }

pub find_start-requires : goal.find_start-requires
find_start-requires c = let s = c.args in walk_before s.device s.signature.now s.image.now s.out.now c.measure_signature.ensures c.in_ok-measured.was

pub returns-then-image-measured : goal.returns-then-image-measured
returns-then-image-measured c =
    let s = c.args in
    let d = walk_delivers s.device s.signature.now s.image.now s.out.now c.measure_signature.ensures c.in_ok-measured.was c.find_start.ensures c.in-Some.is in
    let r = image-wrong d c.if-image-measured.true in
    record { answer = rw c.into-then-image-measured.ensures r.answer; buffer = r.buffer }

pub slice_bounds-kinds-count : goal.slice_bounds-kinds-count
slice_bounds-kinds-count c =
    let s = c.args in
    walk_inside s.device s.signature.now s.image.now s.out.now c.measure_signature.ensures c.in_ok-measured.was c.find_start.ensures c.in-Some.is

pub slice_bounds-kinds-start : goal.slice_bounds-kinds-start
slice_bounds-kinds-start c =
    let s = c.args in
    walk_inside s.device s.signature.now s.image.now s.out.now c.measure_signature.ensures c.in_ok-measured.was c.find_start.ensures c.in-Some.is

pub bodies_length-n-requires : goal.bodies_length-n-requires
bodies_length-n-requires c =
    let s = c.args in
    walk_bytes s.device s.signature.now s.image.now s.out.now c.measure_signature.ensures c.in_ok-measured.was c.find_start.ensures c.in-Some.is

pub returns-then-out-n : goal.returns-then-out-n
returns-then-out-n c =
    let s = c.args in
    let d = walk_delivers s.device s.signature.now s.image.now s.out.now c.measure_signature.ensures c.in_ok-measured.was c.find_start.ensures c.in-Some.is in
    let r = image_short d c.if-image-measured.false (omega (arith, c.bodies_length-n.ensures)) in
    record { answer = rw c.into-then-out-n.ensures r.answer; buffer = r.buffer }

pub check-requires : goal.check-requires
check-requires c =
    let s = c.args in
    let d = walk_delivers s.device s.signature.now s.image.now s.out.now c.measure_signature.ensures c.in_ok-measured.was c.find_start.ensures c.in-Some.is in
    image_admitted d c.if-image-measured.false

pub returns-in_err-check : goal.returns-in_err-check
returns-in_err-check c =
    let s = c.args in
    let d = walk_delivers s.device s.signature.now s.image.now s.out.now c.measure_signature.ensures c.in_ok-measured.was c.find_start.ensures c.in-Some.is in
    let q = c.check in
    let k = improper_keeps q.result _ q.ensures _ _ c.in_err-check.was in
    let r = passed_on _ c.from_residual-in_err-check.ensures.1 (image_improper d c.if-image-measured.false (omega (arith, c.bodies_length-n.ensures, c.if-out-n.false)) q.result k.0 k.1 c.in_err-check.was) in
    record { answer = r.answer; buffer = r.buffer }

pub take_bodies-requires : goal.take_bodies-requires
take_bodies-requires c =
    let s = c.args in
    let a = walk-area s.device s.signature.now s.image.now s.out.now c.measure_signature.ensures c.in_ok-measured.was c.find_start.ensures c.in-Some.is c.if-image-measured.false in
    record { in_bounds = a.0; within = a.1; bodies_in_bounds = omega (arith, c.bodies_length-n.ensures, c.if-out-n.false) }

pub returns : goal.returns
returns c =
    let s = c.args in
    let d = walk_delivers s.device s.signature.now s.image.now s.out.now c.measure_signature.ensures c.in_ok-measured.was c.find_start.ensures c.in-Some.is in
    let q = c.check in
    let k = proper_delivers q.result _ q.ensures _ _ c.in_ok-check.was c.take_bodies.ensures in
    let n = c.bodies_length-n.ensures in
    let r = image_done d c.if-image-measured.false (omega (arith, n, c.if-out-n.false)) q.result k.0 k.1 c.in_ok-check.was in
    record { answer = rw n r.answer; buffer = r.buffer }
