-- `is_plan` meets its contract: entries, zeros, count and area decide, in this order.
use mathlib.Core.Path.{◌≡◌, ◌∙◌, sym}
use mathlib.Core.Bool.{◌&&◌}
use Rattle.plans_words.proofs.Comparing.{wrong_length, and_then, and_else, First, Rest, Counted, area_decides, words_differ}
use Rattle.plans_words.proofs.is_plan.Goals as goal
use Rattle.plans_words.proofs.is_plan.Goals.{then-have_entries, else-have_entries, then-are_zero, else-are_zero}

pub returns-then-words-ne98 : goal.returns-then-words-ne98
returns-then-words-ne98 c = wrong_length c.args.words.now c.args.plan.now c.requires c.if-words-ne98.true

pub returns-then-words-plan : goal.returns-then-words-plan
returns-then-words-plan c =
    let v : c.if-have_entries.value ≡ First c.args.words.now c.args.plan.now && Rest c.args.words.now c.args.plan.now =
    elim c.if-have_entries.branch [
      | then-have_entries w ↦ and_then (sym c.have_entries.ensures ∙ w.if-have_entries.true) (w.value-is ∙ w.are_zero.ensures)
      | else-have_entries w ↦ and_else _ (sym c.have_entries.ensures ∙ w.if-have_entries.false) (w.value-is ∙ c.have_entries.ensures)
    ] in
    let u : c.if-are_zero.value ≡ Counted c.args.words.now c.args.plan.now =
    elim c.if-are_zero.branch [
      | then-are_zero w ↦ and_then (sym v ∙ w.if-are_zero.true) w.value-is
      | else-are_zero w ↦ and_else _ (sym v ∙ w.if-are_zero.false) (w.value-is ∙ v)
    ] in
    area_decides c.args.words.now c.args.plan.now c.requires c.if-words-ne98.false (sym u ∙ c.if-words-plan.true)

pub returns-else-words-plan : goal.returns-else-words-plan
returns-else-words-plan c =
    let v : c.if-have_entries.value ≡ First c.args.words.now c.args.plan.now && Rest c.args.words.now c.args.plan.now =
    elim c.if-have_entries.branch [
      | then-have_entries w ↦ and_then (sym c.have_entries.ensures ∙ w.if-have_entries.true) (w.value-is ∙ w.are_zero.ensures)
      | else-have_entries w ↦ and_else _ (sym c.have_entries.ensures ∙ w.if-have_entries.false) (w.value-is ∙ c.have_entries.ensures)
    ] in
    let u : c.if-are_zero.value ≡ Counted c.args.words.now c.args.plan.now =
    elim c.if-are_zero.branch [
      | then-are_zero w ↦ and_then (sym v ∙ w.if-are_zero.true) w.value-is
      | else-are_zero w ↦ and_else _ (sym v ∙ w.if-are_zero.false) (w.value-is ∙ v)
    ] in
    c.if-words-plan.false ∙ words_differ c.args.words.now c.args.plan.now c.requires c.if-words-ne98.false (sym u ∙ c.if-words-plan.false)
