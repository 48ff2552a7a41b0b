-- `first_wrong` meets its contract: a turn of the outer loop finds that register k is not wrong, a turn of the inner one counts a word.
use Rattle.std.proofs.Common.{◌≡◌, refl, sym, ◌∙◌, false, ℕ, List, Some, ◌-◌, ◌^◌, ◌<◌, arith}
use Rattle.frame.specs.declared.Request.{Request}
use Rattle.frame.specs.Words.{saves_of}
use Rattle.frame.specs.Keeping.{words_in}
use Rattle.prologues.specs.Checking.{count, is_wrong, first_from, first_wrong}
use Rattle.prologues_code.specs.Stores.{store_of}
use Rattle.prologues_code.proofs.WordsIn.{count_found, count_passed, count_end}
use Rattle.prologues_code.proofs.FirstWrong.{first_end, first_yes, first_no, first_low, unnamed_right, stored_right, stored_wrong}
use Rattle.prologues_code.proofs.first_wrong.Goals as goal
use Rattle.prologues_code.proofs.first_wrong.Goals.{then-word_at-store+else-stored, else-word_at-store, in-Some+else-loop-i-test+else-not-stored, in_default}

-- a register that is saved, and whose store does not stand once, is the first
first_is : (r : Request) (ws : List ℕ) (k : ℕ) {store : ℕ} → first_from (is_wrong (saves_of r) ws) k (64 - k) ≡ first_wrong (saves_of r) ws → k < 64
    → store_of r k ≡ Some store → (count store ws ≡ 1 → ⊥) → k ≡ first_wrong (saves_of r) ws
first_is r ws k i k-small e n = sym (sym i ∙ first_yes _ k k-small (stored_wrong r ws k e k-small n))

pub registers-init : goal.registers-init
registers-init c = (refl, first_low c.args.saves.areas _)

pub loop-i-preserved : goal.loop-i-preserved
loop-i-preserved c =
    let s = c.args.code.now in
    let l = c.loop-i in
    let word = c.word_at in
    let small : word.result < 2 ^ 32 = omega arith in (
      elim c.if-word_at-store.branch [
        | then-word_at-store+else-stored w ↦ rw w.stored-is (omega (arith, rw w.if-stored.false at l.invariant.0, count_found s l.i word.result small word.ensures _ w.if-word_at-store.true))
        | else-word_at-store w ↦ rw w.stored-is (rw (count_passed s l.i word.result small word.ensures _ w.if-word_at-store.false) at l.invariant.0)
      ],
      l.invariant.1,
    )

pub registers-preserved : goal.registers-preserved
registers-preserved c =
    let s = c.args.code.now in
    let l = c.registers in
    let a = c.args.saves.areas in
    let right : is_wrong (saves_of c.args.saves.request) (words_in s) l.k ≡ false =
    elim c.match-store_of.branch [
      | in-Some+else-loop-i-test+else-not-stored w ↦
          let none = count_end s w.loop-i.i (omega (arith, w.loop-i-test.false)) w.in-Some.store in
          stored_right _ _ _ (sym c.store_of.ensures ∙ w.in-Some.is) a (omega (arith, rw w.if-not-stored.false at w.loop-i.invariant.0))
      | in_default w ↦ unnamed_right _ _ _ a (sym c.store_of.ensures ∙ w.in_default.is)
    ] in (
      elim c.match-store_of.branch [
        | in-Some+else-loop-i-test+else-not-stored w ↦ w.wrong-is ∙ w.loop-i.invariant.1
        | in_default w ↦ w.wrong-is ∙ l.invariant.0
      ],
      sym (first_no _ l.k c.registers-test.true right) ∙ l.invariant.1,
    )

pub returns-after-registers-clause-first : goal.returns-after-registers-clause-first
returns-after-registers-clause-first c =
    let l = c.registers in
    rw l.invariant.0 (sym (first_end _ l.k c.registers-test.false) ∙ l.invariant.1)

pub returns-then-stored-clause-first : goal.returns-then-stored-clause-first
returns-then-stored-clause-first c =
    let s = c.args.code.now in
    let l = c.loop-i in
    let word = c.word_at in
    let more = count_found s l.i word.result (omega arith) word.ensures _ c.if-word_at-store.true in
    let found = rw c.if-stored.true at l.invariant.0 in
    first_is _ _ _ c.registers.invariant.1 c.registers-test.true (sym c.store_of.ensures ∙ c.in-Some.is) (λ z. omega arith)

pub returns-then-not-stored-clause-first : goal.returns-then-not-stored-clause-first
returns-then-not-stored-clause-first c =
    let s = c.args.code.now in
    let l = c.loop-i in
    let none = count_end s l.i (omega arith) c.in-Some.store in
    let found = rw c.if-not-stored.true at l.invariant.0 in
    first_is _ _ _ c.registers.invariant.1 c.registers-test.true (sym c.store_of.ensures ∙ c.in-Some.is) (λ z. omega arith)
