-- `fill` meets its contract: at each turn, the bytes still to be stored make of the image what the whole list makes of it.
use mathlib.Core.Path.{◌≡◌}
use mathlib.Core.Bool.{true}
use Prim.Native.Nat.{◌-◌}
use lib.ListN.{length, replicate}
use Rattle.places.specs.Places.{put}
use Rattle.carried.specs.Image.{carried, promoted_bytes}
use Rattle.carried.specs.Convention.{scan}
use Rattle.passes.specs.Passes.{placed_in}
use Rattle.passes.proofs.Filling.{Filling}
use Rattle.o32.specs.O32.{O32}
use Rattle.o32_laws.proofs.Premises.{O32-premises}
use Rattle.o32_store.specs.Block.{whole}
use Rattle.o32_writer.proofs.fill.Given as goal

abbrev pub invariant-loop-at : goal.invariant-loop-at
invariant-loop-at l =
    let placed = placed_in (scan (O32 l.device) true l.list) in
    (length l.out ≡ length l.initial.out) × Filling (O32-premises l.device) l.list l.n (put (whole (replicate 8 0) l.initial.out) (carried placed) (promoted_bytes placed l.list)) l.st l.at (whole l.block l.out)

abbrev pub decreases-loop-at : goal.decreases-loop-at
decreases-loop-at l = length l.list - l.at
