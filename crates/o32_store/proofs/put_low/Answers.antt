-- `put_low` meets its contract: so far the bytes that belong to the first k words are stored.
use mathlib.Core.Path.{◌∙◌}
use Prim.Native.Nat.{ℕ, ◌-◌, ◌*◌}
use native.Mathlib.Omega.{arith}
use native.Mathlib.Nat.{zero-add}
use lib.ListN.{length, take, drop, length-set}
use Rattle.words.specs.Words.{bytes_of_words}
use Rattle.o32_store.specs.Block.{bytes_in_word}
use Rattle.o32_store.proofs.Image.{word-start}
use Rattle.o32_store.proofs.Low.{at-most_four, low_next}
use Rattle.o32_store.proofs.put_low.Goals as goal

pub loop-k-preserved : goal.loop-k-preserved
loop-k-preserved c =
    let a = c.args in
    let l = c.loop-k in
    let n : ℕ = length a.body.now in
    let m : ℕ = bytes_in_word a.o n (4 * l.k) in
    let e = rw zero-add at (low_next (bytes_of_words a.block) a.body.now a.o 0 n l.k c.requires.o_value (omega arith)) in (
      simp length-set l.invariant.0,
      word-start l.next l.k c.low_word.result m (take m (drop (4 * l.k - a.o) a.body.now)) (omega arith) (at-most_four a.o n (4 * l.k)) c.low_word.ensures
          ∙ rw l.invariant.1 e,
    )
