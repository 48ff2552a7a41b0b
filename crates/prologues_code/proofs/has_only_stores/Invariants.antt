-- `has_only_stores` meets its contract: a turn of its loop passes over a word that is 00000000 or a store.
use mathlib.Core.Path.{◌≡◌}
use mathlib.Core.Bool.{Bool}
use mathlib.Core.List.{List, map}
use Prim.Native.Nat.{ℕ, ◌*◌}
use lib.ListN.{drop}
use Rattle.frame.specs.declared.Request.{Request}
use Rattle.frame.specs.Words.{saves_of, store_word}
use Rattle.frame.specs.Keeping.{words_in}
use Rattle.prologues.specs.Checking.{are_stores, instructions}
use Rattle.prologues_code.proofs.has_only_stores.Given as goal

-- whether only stores and 00000000 stand in code
abbrev onlyStores : Request → List ℕ → Bool
onlyStores r code = are_stores (map store_word (saves_of r)) (instructions (words_in code))

abbrev pub invariant-loop-i : goal.invariant-loop-i
invariant-loop-i l = onlyStores l.saves.request (drop (4 * l.i) l.code) ≡ onlyStores l.saves.request l.code
