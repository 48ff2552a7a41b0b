-- `put_plan` meets its contract: the entries, then the count and the area.
use mathlib.Core.Path.{refl}
use native.Mathlib.Omega.{arith}
use Rattle.plans_words.proofs.Storing.{plan-stored}
use Rattle.plans_words.proofs.put_plan.Goals as goal

pub returns : goal.returns
returns c = plan-stored c.args.plan.now c.args.out.now (omega (arith, c.well_formed)) c.requires c.put_entries.ensures refl
