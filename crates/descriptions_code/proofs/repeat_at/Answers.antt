-- `repeat_at` meets its contract.
use Rattle.std.proofs.Common.{◌≡◌, ◌+◌, sym, ◌∙◌, get_or, length, arith}
use borrow.Author.Tests.{ltb-true, ltb-false}
use Rattle.descriptions_code.proofs.Reading.{repeat_none, count_missing, count-zero, count_times}
use Rattle.descriptions_code.proofs.repeat_at.Goals.{in_default-via-in-Some+else-count-ne0, in_default-via-in_default}
use Rattle.descriptions_code.proofs.repeat_at.Goals as goal

pub returns-then-description-at-ne18 : goal.returns-then-description-at-ne18
returns-then-description-at-ne18 c = repeat_none c.requires.0 c.requires.1 c.if-description-at-ne18.true

pub returns-in-Some : goal.returns-in-Some
returns-in-Some c =
    let g = c.type_inv.description (c.args.at + 1) in
    let k = ltb-true (c.args.at + 1) (length c.args.description.now) (sym c.in-Some.ensures.lookup.0) in
    let e : c.in-Some.field-0.now ≡ get_or c.args.description.now (c.args.at + 1) 0 = grind (arith, c.in-Some.ensures) in
    rw e (count_times c.requires.0 c.if-description-at-ne18.false k (λ z. c.if-count-ne0.true (e ∙ z)) (omega arith))

pub returns-in_default : goal.returns-in_default
returns-in_default c = rw c.refusal_at.ensures (elim c.in_default.branch [
  | in_default-via-in-Some+else-count-ne0 w ↦
      let k = ltb-true (c.args.at + 1) (length c.args.description.now) (sym w.in-Some.ensures.lookup.0) in
      let e : w.in-Some.field-0.now ≡ get_or c.args.description.now (c.args.at + 1) 0 = grind (arith, w.in-Some.ensures) in
      count-zero c.requires.0 c.if-description-at-ne18.false k (sym e ∙ w.if-count-ne0.false)
  | in_default-via-in_default w ↦
      count_missing c.requires.0 c.if-description-at-ne18.false (ltb-false (c.args.at + 1) (length c.args.description.now) (sym w.in_default.ensures.lookup.0))
])
