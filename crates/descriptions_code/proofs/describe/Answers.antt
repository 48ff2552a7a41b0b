-- `describe` meets its contract.
use Rattle.std.proofs.Common.{◌≡◌, get_or, length, arith}
use Rattle.std.specs.Prelude.{Some, None}
use Rattle.std.proofs.lemmas.Result.{err_from_is_err_and}
use Rattle.answers.specs.declared.Cause.TheVariants as C
use Rattle.descriptions.specs.Trees.{kind_for}
use Rattle.descriptions_code.specs.Reading.{nonzero}
use Rattle.descriptions_code.proofs.Whole.{whole_missing, whole_unopened, whole-refused, whole_left_over, whole_kindless, whole_kind}
use Rattle.descriptions_code.proofs.describe.Goals.{in_default-via-then-description-lt1, in_default-via-else-description-lt1+in_default-1}
use Rattle.descriptions_code.proofs.describe.Goals as goal

pub returns-in_default-clause-answer : goal.returns-in_default-clause-answer
returns-in_default-clause-answer c = elim c.in_default.branch [
  | in_default-via-then-description-lt1 w ↦
      let e : length c.args.description.now ≡ 0 = grind arith in
      rw c.into.ensures (whole_missing c.args.description.now e)
  | in_default-via-else-description-lt1+in_default-1 w ↦
      let e : (length c.args.description.now ≡ 0 → ⊥) = λ z. grind arith in
      let f : (get_or c.args.description.now 0 0 ≡ 0x10 → ⊥) = λ z. grind arith in
      rw c.into.ensures (whole_unopened c.args.description.now e f)
]

pub returns-in_err-whole-clause-answer : goal.returns-in_err-whole-clause-answer
returns-in_err-whole-clause-answer c =
    let f : get_or c.args.description.now 0 0 ≡ 0x10 = omega arith in
    let p = err_from_is_err_and c.from_residual.result c.from_residual.ensures.1 in
    rw (p.1, p.2) (whole-refused c.args.description.now f c.in_err-whole.ensures)

pub returns-then-next-description-clause-answer : goal.returns-then-next-description-clause-answer
returns-then-next-description-clause-answer c =
    let f : get_or c.args.description.now 0 0 ≡ 0x10 = omega arith in
    rw c.refusal_at.ensures (whole_left_over c.args.description.now f c.in_ok-whole.ensures c.if-next-description.true)

pub returns-in_err-kind-clause-answer : goal.returns-in_err-kind-clause-answer
returns-in_err-kind-clause-answer c =
    let f : get_or c.args.description.now 0 0 ≡ 0x10 = omega arith in
    let n : None ≡ nonzero (kind_for c.in_ok-whole.whole.size c.in_ok-whole.whole.alignment) = grind (arith, c.in_err-kind.ensures, c.structure_kind.ensures) in
    let p = err_from_is_err_and c.from_residual-in_err-kind.result c.from_residual-in_err-kind.ensures.1 in
    let q : c.in_err-kind.field-0.0 ≡ C.NoKind = grind (arith, c.in_err-kind.ensures) in
    rw (p.1, p.2, q) (whole_kindless c.args.description.now f c.in_ok-whole.ensures c.if-next-description.false n)

pub returns-clause-answer : goal.returns-clause-answer
returns-clause-answer c =
    let f : get_or c.args.description.now 0 0 ≡ 0x10 = omega arith in
    let n : Some c.in_ok-kind.kind ≡ nonzero (kind_for c.in_ok-whole.whole.size c.in_ok-whole.whole.alignment) = grind (arith, c.in_ok-kind.ensures, c.structure_kind.ensures) in
    whole_kind c.args.description.now f c.in_ok-whole.ensures c.if-next-description.false n
