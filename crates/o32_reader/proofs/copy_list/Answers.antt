-- `copy_list` meets its contract: what was copied and the reading of what is ahead are the whole reading.
use native.Mathlib.Omega.{arith}
use borrow.Author.Rules.{rules}
use mathlib.Core.Path.{refl, sym, ◌∙◌}
use mathlib.Core.List.{List}
use Prim.Native.Nat.{ℕ, ◌+◌, ◌≤◌}
use lib.ListN.{length, get_or, set, length-set}
use Rattle.places.proofs.Stores.{part-length, run-written}
use Rattle.passes.proofs.Reading.{copy_starts}
use Rattle.o32_laws.proofs.Premises.{O32-premises}
use Rattle.o32_step.proofs.Ahead.{ahead_placeable, ahead_fit}
use Rattle.o32_reader.proofs.Turns.{body-room, body-copied}
use Rattle.o32_reader.proofs.copy_list.Goals as goal

pub loop-byte-init : goal.loop-byte-init
loop-byte-init c = (refl, copy_starts (O32-premises c.args.device) _ c.start-st.ensures c.requires.admitted)

pub placement_of-placement-requires : goal.placement_of-placement-requires
placement_of-placement-requires c = ahead_placeable c.args.device c.loop-byte.invariant.1.ahead c.from-kind.ensures

pub bounds-out-n : goal.bounds-out-n
bounds-out-n c = omega (arith, body-room c.args.device c.loop-byte.invariant.1 c.loop-byte-test.true c.from-kind.ensures c.placement_of-placement.ensures c.requires.image_in_bounds, c.loop-byte.invariant.0)

pub get_body-requires : goal.get_body-requires
get_body-requires c =
    let r = body-room c.args.device c.loop-byte.invariant.1 c.loop-byte-test.true c.from-kind.ensures c.placement_of-placement.ensures c.requires.image_in_bounds in
    let next : List ℕ = set c.loop-byte.out c.loop-byte.n (get_or c.args.signature.now c.loop-byte.byte-index 0) in
    let inside : c.loop-byte.n + 1 + c.from-kind.result.size ≤ length next = rw length-set (omega (arith, r, c.loop-byte.invariant.0)) in
    record {
      fit = ahead_fit c.args.device c.loop-byte.invariant.1.ahead c.from-kind.ensures c.placement_of-placement.ensures c.loop-byte-test.true _ (omega arith);
      body_length = part-length next (c.loop-byte.n + 1) c.from-kind.result.size inside ∙ sym r.1;
    }

pub advance-st-requires-clause-placeable : goal.advance-st-requires-clause-placeable
advance-st-requires-clause-placeable c = ahead_placeable c.args.device c.loop-byte.invariant.1.ahead c.from-kind.ensures

pub slice_bounds-get_body-end : goal.slice_bounds-get_body-end
slice_bounds-get_body-end c = simp length-set (omega (arith, body-room c.args.device c.loop-byte.invariant.1 c.loop-byte-test.true c.from-kind.ensures c.placement_of-placement.ensures c.requires.image_in_bounds, c.loop-byte.invariant.0))

pub overflow_add-end : goal.overflow_add-end
overflow_add-end c = omega (arith, body-room c.args.device c.loop-byte.invariant.1 c.loop-byte-test.true c.from-kind.ensures c.placement_of-placement.ensures c.requires.image_in_bounds, c.well_formed)

pub loop-byte-preserved : goal.loop-byte-preserved
loop-byte-preserved c =
    let r = body-room c.args.device c.loop-byte.invariant.1 c.loop-byte-test.true c.from-kind.ensures c.placement_of-placement.ensures c.requires.image_in_bounds in
    let next : List ℕ = set c.loop-byte.out c.loop-byte.n (get_or c.args.signature.now c.loop-byte.byte-index 0) in
    let inside : c.loop-byte.n + 1 + c.from-kind.result.size ≤ length next = rw length-set (omega (arith, r, c.loop-byte.invariant.0)) in
    let written = run-written next (c.loop-byte.n + 1) c.from-kind.result.size inside c.get_body.new.out _ c.get_body.auto.out c.get_body.ensures in (
      search rules,
      body-copied c.args.device c.loop-byte.invariant.1 c.loop-byte-test.true c.from-kind.ensures c.placement_of-placement.ensures c.requires.image_in_bounds c.advance-st.ensures (omega arith) written,
    )
