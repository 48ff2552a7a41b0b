-- `have_entries` meets its contract: the entries still to be compared decide.
use mathlib.Core.Path.{◌∙◌, sym}
use Rattle.plans_words.proofs.Comparing.{compare_differs, compare_turn, compare_ends}
use Rattle.plans_words.proofs.have_entries.Goals as goal

pub returns-then-not-is_entry : goal.returns-then-not-is_entry
returns-then-not-is_entry c = compare_differs c.args.words.now c.args.entries.now c.requires c.loop-i.i c.loop-i.invariant c.loop-i-test.true (sym c.is_entry.ensures ∙ c.if-not-is_entry.true)

pub loop-i-preserved : goal.loop-i-preserved
loop-i-preserved c = compare_turn c.args.words.now c.args.entries.now c.requires c.loop-i.i c.loop-i.invariant c.loop-i-test.true (sym c.is_entry.ensures ∙ c.if-not-is_entry.false)

pub returns : goal.returns
returns c = compare_ends c.args.words.now c.args.entries.now c.requires c.loop-i.i c.loop-i.invariant c.loop-i-test.false
