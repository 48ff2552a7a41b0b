-- A kind of the table can be placed after arguments in their limits.
-- Assumes nothing.
use mathlib.Core.Path.{◌≡◌, sym, ap, ◌∙◌}
use mathlib.Core.Bool.{Bool, true, false, cond}
use Prim.Native.Nat.{ℕ, ◌+◌, ◌≤◌, ◌<◌}
use native.Mathlib.Omega.{arith}
use lib.Dec.{eqb, leb}
use borrow.Author.Tests.{ne_eqb, le-leb, lt-leb, lt-ltb, le-ltb}
use Rattle.device.specs.declared.Device.{Device}
use Rattle.device.specs.declared.Device.TheVariants.{Fpu}
use Rattle.carried.specs.Convention.{refuse, next, body_length, limited, taken}
use Rattle.kinds.specs.declared.Class.TheVariants.{Unknown, Marker, Float}
use Rattle.kinds.specs.declared.Kind.{Kind}
use Rattle.o32.specs.declared.State.{State}
use Rattle.o32_step.specs.Recorded.{Recorded}
use Rattle.o32_step.specs.Recorded as R
use Rattle.kinds.specs.Kinds.{kind_of, is}
use Rattle.words.specs.Words.{up}
use Rattle.o32_offsets.specs.Offsets.{offset, width}
use Rattle.o32.specs.O32.{O32, float_register, register, advance, placement, stepped, end_most}
use Rattle.rules.specs.Rules.{misplaced, full, argument, arguments_most, extend}
use Rattle.o32_step.specs.Records.{record_of, Placeable}
use Rattle.kinds.proofs.KindFacts.{kind_facts}
use Rattle.rules.specs.declared.Prefix.{Prefix}
use Rattle.o32_offsets.proofs.Offsets.{up_small}

-- a kind of the table can be placed after arguments in their limits
pub placeable : (st : State) (k : ℕ) (kd : Kind) → kd ≡ kind_of k → st.end ≤ end_most → st.prefix.count ≤ arguments_most → Placeable st kd
placeable st k kd e h f = record { aligned = rw e (kind_facts k).alignments; small = rw e (kind_facts k).small; fits = h; few = f }
