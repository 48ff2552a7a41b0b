-- `check` meets its contract: what is found from each kind on is what the whole signature finds.
use mathlib.Core.Bool.{false}
use Rattle.carried.specs.Image.{checked}
use Rattle.carried.specs.Convention.{scan}
use Rattle.passes.specs.Passes.{placed_in}
use Rattle.passes.proofs.Reading.{Checking}
use Rattle.o32.specs.O32.{O32}
use Rattle.o32_laws.proofs.Premises.{O32-premises}
use Rattle.o32_reader.proofs.check.Given as goal

abbrev pub invariant-loop-at : goal.invariant-loop-at
invariant-loop-at l = Checking (O32-premises l.device) l.signature l.image (λ n x. checked n 0 (placed_in (scan (O32 l.device) false l.signature)) l.image x) l.st l.at
