-- `member_list` and `member_type`, which call each other, meet their contracts.
use Rattle.std.proofs.Common.{◌≡◌, sym, ◌∙◌, get_or, length, arith}
use borrow.Author.Tests.{ltb-true, ltb-false}
use Rattle.std.specs.Prelude.{Some, None}
use Rattle.std.proofs.lemmas.Result.{err_from_is_err_and}
use Rattle.descriptions.specs.Describing.{scalar_bytes}
use Rattle.descriptions_code.specs.Reading.{nonzero}
use Rattle.descriptions_code.proofs.Numbers.{nonzero_some, nonzero_none}
use Rattle.descriptions_code.proofs.Reading.{type_missing, type_too_deep, type_structure, type_unknown, type_scalar}
use Rattle.descriptions_code.proofs.Members.{members_none, members_missing, members_closed, members_uncounted, members_refused, member_read, member_over, members_on}
use Rattle.descriptions_code.proofs.+member_list_member_type.Goals as goal

pub member_list-loop-at-init : goal.member_list-loop-at-init
member_list-loop-at-init t c = members_none

pub member_list-returns-then-description-at-eq17 : goal.member_list-returns-then-description-at-eq17
member_list-returns-then-description-at-eq17 t c =
    members_closed c.loop-at.invariant c.loop-at-test.true c.if-description-at-eq17.true c.close.ensures

pub member_list-returns-in_err-repeat : goal.member_list-returns-in_err-repeat
member_list-returns-in_err-repeat t c =
    let p = err_from_is_err_and c.from_residual.result c.from_residual.ensures.1 in
    rw (p.1, p.2) (members_uncounted c.loop-at.invariant c.in_err-repeat.ensures)

pub member_list-returns-in_err-member : goal.member_list-returns-in_err-member
member_list-returns-in_err-member t c =
    let p = err_from_is_err_and c.from_residual-in_err-member.result c.from_residual-in_err-member.ensures.1 in
    rw (p.1, p.2) (members_refused c.loop-at.invariant c.in_ok-repeat.ensures c.in_err-member.ensures)

-- one more member was read
pub member_list-returns-then-new_end-gt512 : goal.member_list-returns-then-new_end-gt512
member_list-returns-then-new_end-gt512 t c =
    let member = member_read c.loop-at.invariant c.in_ok-repeat.ensures c.in_ok-member.ensures in
    rw c.refusal_at.ensures (member_over member c.end_after-new_end.ensures c.if-new_end-gt512.true)

pub member_list-loop-at-preserved : goal.member_list-loop-at-preserved
member_list-loop-at-preserved t c =
    let member = member_read c.loop-at.invariant c.in_ok-repeat.ensures c.in_ok-member.ensures in
    members_on member c.end_after-new_end.ensures c.if-new_end-gt512.false c.max-strictest.ensures

pub member_list-returns : goal.member_list-returns
member_list-returns t c = rw c.refusal_at-2.ensures (members_missing c.loop-at.invariant c.loop-at-test.false)

pub member_type-returns-in_default : goal.member_type-returns-in_default
member_type-returns-in_default t c = rw c.refusal_at.ensures (type_missing (ltb-false c.args.at (length c.args.description.now) (sym c.in_default.ensures.lookup.0)))

pub member_type-returns-then-depth-eq0 : goal.member_type-returns-then-depth-eq0
member_type-returns-then-depth-eq0 t c =
    let h = ltb-true c.args.at (length c.args.description.now) (sym c.in-Some.ensures.lookup.0) in
    let e : c.in-Some.field-0.now ≡ get_or c.args.description.now c.args.at 0 = grind (arith, c.in-Some.ensures) in
    rw c.refusal_at-then-depth-eq0.ensures (type_too_deep h (sym e ∙ c.if-byte-eq16.true) c.if-depth-eq0.true)

pub member_type-returns-then-byte-eq16 : goal.member_type-returns-then-byte-eq16
member_type-returns-then-byte-eq16 t c =
    let h = ltb-true c.args.at (length c.args.description.now) (sym c.in-Some.ensures.lookup.0) in
    let e : c.in-Some.field-0.now ≡ get_or c.args.description.now c.args.at 0 = grind (arith, c.in-Some.ensures) in
    type_structure h (sym e ∙ c.if-byte-eq16.true) c.if-depth-eq0.false c.member_list.ensures

pub member_type-returns-in_err-size : goal.member_type-returns-in_err-size
member_type-returns-in_err-size t c =
    let h = ltb-true c.args.at (length c.args.description.now) (sym c.in-Some.ensures.lookup.0) in
    let e : c.in-Some.field-0.now ≡ get_or c.args.description.now c.args.at 0 = grind (arith, c.in-Some.ensures) in
    let p = err_from_is_err_and c.from_residual.result c.from_residual.ensures.1 in
    let none : None ≡ nonzero (scalar_bytes c.in-Some.field-0.now) = grind (arith, c.in_err-size.ensures, c.scalar_bytes.ensures) in
    let same : c.in_err-size.field-0.0 ≡ c.refusal_at-2.result = grind (arith, c.in_err-size.ensures) in
    rw (p.1, p.2, same, c.refusal_at-2.ensures) (type_unknown h (λ z. c.if-byte-eq16.false (e ∙ z)) (rw e at (nonzero_none none)))

pub member_type-returns : goal.member_type-returns
member_type-returns t c =
    let h = ltb-true c.args.at (length c.args.description.now) (sym c.in-Some.ensures.lookup.0) in
    let e : c.in-Some.field-0.now ≡ get_or c.args.description.now c.args.at 0 = grind (arith, c.in-Some.ensures) in
    let some : Some c.in_ok-size.size ≡ nonzero (scalar_bytes c.in-Some.field-0.now) = grind (arith, c.in_ok-size.ensures, c.scalar_bytes.ensures) in
    let p = nonzero_some some in
    type_scalar h (λ z. c.if-byte-eq16.false (e ∙ z)) (rw e at p.0) (λ z. p.1 (sym p.0 ∙ z))
