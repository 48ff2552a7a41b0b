-- What the contracts of the code on one record cite beside the definitions: its answer, case by case, and what it asks for.
use Rattle.std.specs.Prelude.{◌≤◌}
use Rattle.carried.specs.Convention.{Step, refuse, next}
use Rattle.kinds.specs.declared.Kind.{Kind}
use Rattle.o32.specs.declared.State.{State}
use Rattle.o32.specs.declared.Placement.{Placement}
use Rattle.o32_offsets.specs.Offsets.{Alignment}
use Rattle.rules.specs.Rules.{arguments_most}
use Rattle.o32.specs.O32.{end_most}
use Rattle.o32_step.specs.Recorded.{Recorded}
use Rattle.o32_step.specs.Recorded as R

-- The answer of one record: its refusal, or its kind and the state after it; and its argument's number.
abbrev pub record_of : Step Placement State → Recorded
record_of (refuse r n) = R.refused r n
record_of (next n p st) = R.taken n p.kind st

-- A record that can be placed: its kind is of the table, and the arguments before it are in their limits.
pub record Placeable (st : State) (k : Kind) : Type 0 where
  pub aligned : Alignment k.alignment
  pub small : k.size ≤ 512
  pub fits : st.end ≤ end_most
  pub few : st.prefix.count ≤ arguments_most
