-- `has_only_stores` meets its contract: a turn of its loop passes over a word that is 00000000 or a store.
use Rattle.std.proofs.Common.{sym, ap, ◌∙◌, arith}
use Rattle.prologues.specs.Checking.{are_stores}
use Rattle.prologues_code.proofs.WordsIn.{instructions_blank, instructions_end, stores_yes, stores_no}
use Rattle.prologues_code.proofs.has_only_stores.Goals as goal
use Rattle.prologues_code.proofs.has_only_stores.Goals.{else-word-ne0-via-then-word-ne0+else-not-is_store, else-word-ne0-via-else-word-ne0}

pub returns-then-not-is_store : goal.returns-then-not-is_store
returns-then-not-is_store c =
    let l = c.loop-i in
    let word = c.word_at-word in
    let no = sym c.is_store.ensures ∙ c.if-not-is_store.true in
    sym (sym l.invariant ∙ stores_no _ l.i word.result (omega arith) word.ensures _ c.if-word-ne0.true no)

pub loop-i-preserved : goal.loop-i-preserved
loop-i-preserved c =
    let l = c.loop-i in
    let word = c.word_at-word in
    elim c.else-word-ne0.branch [
      | else-word-ne0-via-then-word-ne0+else-not-is_store w ↦ sym (stores_yes _ l.i word.result (omega arith) word.ensures _ w.if-word-ne0.true (sym w.is_store.ensures ∙ w.if-not-is_store.false))
      | else-word-ne0-via-else-word-ne0 w ↦ sym (ap (are_stores _) (instructions_blank _ l.i word.result (omega arith) word.ensures w.if-word-ne0.false))
    ] ∙ l.invariant

pub returns : goal.returns
unfolding are_stores
returns c =
    let l = c.loop-i in
    sym (sym l.invariant ∙ ap (are_stores _) (instructions_end _ l.i (omega arith)))
