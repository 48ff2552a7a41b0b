-- `read` meets its contract: each refusal in its order, or the list.
use mathlib.Core.Path.{◌≡◌}
use mathlib.Core.List.{List}
use mathlib.Core.Bool.{false}
use Prim.Native.Nat.{ℕ}
use native.Mathlib.Omega.{arith}
use lib.ListN.{length}
use Rattle.std.specs.Prelude.{Result, Ok}
use Rattle.answers.specs.declared.Refusal.{Refusal}
use Rattle.device.specs.declared.Device.{Device}
use Rattle.carried.specs.Image.{reading}
use Rattle.carried.specs.Convention.{scan, read_into}
use Rattle.passes.specs.declared.Measured.{Measured}
use Rattle.passes.specs.Found.{found}
use Rattle.passes.specs.Passes.{measured, placed_in}
use Rattle.passes.proofs.Answers.{Delivers, passed_on, was_accepted, read-refused, image-wrong, image_admitted, image_short, image-room, image_improper, image_done, read_delivers}
use Rattle.o32.specs.O32.{O32}
use Rattle.o32_laws.proofs.Premises.{O32-premises}
use Rattle.o32_image.proofs.read.Goals as goal

-- a signature that the first pass accepts
delivers : (d : Device) (sig img out : List ℕ) {q : Result Measured Refusal} {v : Measured} → ((d : Device) → found q ≡ measured (O32 d) (scan (O32 d) false sig)) → q ≡ Ok v
    → Delivers (O32 d) sig img out (reading (placed_in (scan (O32 d) false sig)) img) v.length v.image (read_into (O32 d) sig img (length out))
delivers d sig img out e was = read_delivers (O32-premises d) sig img out (was_accepted (O32 d) false sig (e d) was)

pub returns-in_err-measured : goal.returns-in_err-measured
returns-in_err-measured c =
    let a = c.args in
    let r = passed_on _ c.from_residual.ensures.1 (read-refused (O32-premises a.device) a.signature.now a.image.now a.out.now (c.measure_signature.ensures a.device) c.in_err-measured.was) in
    record { answer = r.answer; buffer = r.buffer }

pub returns-then-image-measured : goal.returns-then-image-measured
returns-then-image-measured c =
    let a = c.args in
    let r = image-wrong (delivers a.device a.signature.now a.image.now a.out.now c.measure_signature.ensures c.in_ok-measured.was) c.if-image-measured.true in
    record { answer = rw c.into.ensures r.answer; buffer = r.buffer }

pub returns-then-out-measured : goal.returns-then-out-measured
returns-then-out-measured c =
    let a = c.args in
    let v = delivers a.device a.signature.now a.image.now a.out.now c.measure_signature.ensures c.in_ok-measured.was in
    let r = image_short v c.if-image-measured.false (omega arith) in
    record { answer = rw c.into-then-out-measured.ensures r.answer; buffer = r.buffer }

pub deliver-requires : goal.deliver-requires
deliver-requires c =
    let a = c.args in
    let v = delivers a.device a.signature.now a.image.now a.out.now c.measure_signature.ensures c.in_ok-measured.was in
    record { admitted = image_admitted v c.if-image-measured.false; image_in_bounds = image-room v c.if-image-measured.false c.if-out-measured.false }

pub returns-in_err-deliver : goal.returns-in_err-deliver
returns-in_err-deliver c =
    let a = c.args in
    let v = delivers a.device a.signature.now a.image.now a.out.now c.measure_signature.ensures c.in_ok-measured.was in
    let e = c.deliver.ensures in
    let r = passed_on _ c.from_residual-in_err-deliver.ensures.1 (image_improper v c.if-image-measured.false c.if-out-measured.false c.deliver.result e.x_value e.out_after c.in_err-deliver.was) in
    record { answer = r.answer; buffer = r.buffer }

pub returns : goal.returns
returns c =
    let a = c.args in
    let v = delivers a.device a.signature.now a.image.now a.out.now c.measure_signature.ensures c.in_ok-measured.was in
    let e = c.deliver.ensures in
    let r = image_done v c.if-image-measured.false c.if-out-measured.false c.deliver.result e.x_value e.out_after c.in_ok-deliver.was in
    record { answer = r.answer; buffer = r.buffer }
