-- `is_opened` meets its contract: its loop passes over 00000000 up to the first instruction.
use Rattle.std.proofs.Common.{sym, ap, ◌∙◌, arith}
use Rattle.prologues.specs.Checking.{are_stores, instructions, is_opened}
use Rattle.prologues_code.specs.Stores.{first_word}
use Rattle.prologues_code.proofs.WordsIn.{instructions_blank, instructions_next, instructions_end, words_after, opened_none, opened_yes, opened_no}
use Rattle.prologues_code.proofs.is_opened.Goals as goal

pub returns-then-eq : goal.returns-then-eq
returns-then-eq c =
    let l = c.loop-i in
    let word = c.word_at-word in
    let first = c.first_word-first.ensures ∙ ap first_word c.args.saves.areas.frame in
    -- the first instruction, and those after it
    let is = sym l.invariant ∙ instructions_next _ l.i word.result (omega arith) word.ensures c.if-word-ne0.true in
    c.has_only_stores.ensures ∙ ap (are_stores _) (ap instructions (words_after _ l.i word.result (omega arith) word.ensures))
    ∙ sym (ap (is_opened _ _) is ∙ opened_yes _ _ first _ _ c.if-eq.ensures)

pub returns-else-eq : goal.returns-else-eq
returns-else-eq c =
    let l = c.loop-i in
    let word = c.word_at-word in
    let first = c.first_word-first.ensures ∙ ap first_word c.args.saves.areas.frame in
    let is = sym l.invariant ∙ instructions_next _ l.i word.result (omega arith) word.ensures c.if-word-ne0.true in
    c.if-eq.false ∙ sym (ap (is_opened _ _) is ∙ opened_no _ _ first _ _ c.if-eq.ensures)

pub loop-i-preserved : goal.loop-i-preserved
loop-i-preserved c =
    let l = c.loop-i in
    let word = c.word_at-word in
    sym (instructions_blank _ l.i word.result (omega arith) word.ensures (omega arith)) ∙ l.invariant

pub returns : goal.returns
returns c =
    let l = c.loop-i in
    let first = c.first_word-first.ensures ∙ ap first_word c.args.saves.areas.frame in
    opened_none _ _ first _ c.is_none.ensures ∙ ap (is_opened _ _) (sym (instructions_end _ l.i (omega arith)) ∙ l.invariant)
