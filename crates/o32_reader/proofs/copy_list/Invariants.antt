-- `copy_list` meets its contract: what was copied and the reading of what is ahead are the whole reading.
use mathlib.Core.Path.{◌≡◌}
use mathlib.Core.Bool.{false}
use lib.ListN.{length}
use Rattle.carried.specs.Image.{reading}
use Rattle.carried.specs.Convention.{scan}
use Rattle.passes.specs.Passes.{placed_in}
use Rattle.passes.proofs.Reading.{Copying}
use Rattle.o32.specs.O32.{O32}
use Rattle.o32_laws.proofs.Premises.{O32-premises}
use Rattle.o32_reader.proofs.copy_list.Given as goal

abbrev pub invariant-loop-byte : goal.invariant-loop-byte
invariant-loop-byte l =
    (length l.out ≡ length l.initial.out) × Copying (O32-premises l.device) l.signature l.image l.initial.out (reading (placed_in (scan (O32 l.device) false l.signature)) l.image) l.st l.byte-index l.n l.out
