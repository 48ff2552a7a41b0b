-- `o32_store::put_low` meets its contract. The loop's invariant: the bytes that belong to the first k words are stored.
use mathlib.Core.Path.{◌≡◌}
use Prim.Native.Nat.{◌-◌, ◌*◌, min}
use lib.ListN.{length, take}
use Rattle.places.specs.Places.{put, run}
use Rattle.words.specs.Words.{bytes_of_words}
use Rattle.o32_store.proofs.put_low.Given as goal

abbrev pub invariant-loop-k : goal.invariant-loop-k
invariant-loop-k l = (length l.next ≡ 8) × (bytes_of_words l.next ≡ put (bytes_of_words l.initial.next) (run l.o (min (length l.body) (4 * l.k - l.o))) (take (min (length l.body) (4 * l.k - l.o)) l.body))
