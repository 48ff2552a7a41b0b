-- Demands 1 and 3, and what holds of the walker, of plans, of descriptions and of the check of prologues, of what the functions for C
-- answer and leave in their buffers, for every device number.
-- Assumes nothing.
use mathlib.Core.Path.{◌≡◌, refl}
use mathlib.Core.List.{[]}
use Prim.Native.Nat.{ℕ}
use lib.ListN.{replicate}
use Rattle.o32_laws.specs.Refusing.{Refusals}
use Rattle.o32_laws.specs.Demand.{Demand}
use Rattle.o32_laws.proofs.Refusals.{refusals}
use Rattle.o32_laws.proofs.Demand.{demand}
use Rattle.varargs.specs.Varargs.{Walks}
use Rattle.varargs.proofs.Theorem.{walker}
use Rattle.plans.specs.Pair.{Pairs, Demands}
use Rattle.plans.proofs.Theorem.{pairs, demands}
use Rattle.descriptions.specs.Descriptions.{Describes}
use Rattle.descriptions.proofs.Theorem.{described_right}
use Rattle.prologues.specs.Prologues.{Checks}
use Rattle.prologues.proofs.Theorem.{checks}
use Rattle.capi.specs.Numbers.{device_of, functions_for_c, walker_for_c, pair_for_c, describer_for_c, checker_for_c}

-- A case, computed: the empty list into a buffer of 49 bytes has an image of 48.
pub empty_for_c : ((functions_for_c 0).write [] (replicate 49 0xC5)).length ≡ 48
empty_for_c = refl

pub refusals_for_c : (device : ℕ) → Refusals (functions_for_c device)
refusals_for_c device = refusals (device_of device)

pub demand_for_c : (device : ℕ) → Demand (functions_for_c device) (device_of device)
demand_for_c device = demand (device_of device)

pub walker_for_c_lem : (device : ℕ) → Walks (functions_for_c device) (walker_for_c device) (device_of device)
walker_for_c_lem device = walker (device_of device)

pub pairs_for_c : (device : ℕ) → Pairs (functions_for_c device) (pair_for_c device) (device_of device)
pairs_for_c device = pairs (device_of device)

pub demands_by_plan_for_c : (device : ℕ) → Demands (functions_for_c device) (pair_for_c device) (device_of device)
demands_by_plan_for_c device = demands (device_of device)

pub descriptions_for_c : Describes describer_for_c
descriptions_for_c = described_right

pub checks_for_c : Checks checker_for_c
checks_for_c = checks
