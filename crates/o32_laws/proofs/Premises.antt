-- O32 gives what the laws of the passes ask for, on every device.
-- Assumes nothing.
use mathlib.Core.Path.{◌≡◌, refl, ap}
use Prim.Native.Nat.{ℕ, ◌+◌}
use native.Mathlib.Omega.{arith}
use borrow.Author.Tests.{leb-true}
use Rattle.device.specs.declared.Device.{Device}
use Rattle.kinds.specs.Kinds.{kind_of}
use Rattle.kinds.proofs.KindFacts.{kind_facts}
use Rattle.rules.specs.Rules.{argument}
use Rattle.carried.specs.Convention.{next}
use Rattle.passes.proofs.Premises.{Premises}
use Rattle.o32.specs.declared.State.{State}
use Rattle.o32.specs.declared.Placement.{Placement}
use Rattle.o32.specs.O32.{O32, placement, advance, end_most}
use Rattle.o32_laws.proofs.Laws.{O32-laws}
use Rattle.o32_laws.proofs.Steps.{step-described}
use Rattle.o32_laws.proofs.Bounds.{Held, held_starts, held_on, held_place, step_grows}

module _ (d : Device) where
  pub size_is : (st : State) (k j : ℕ) (p : Placement) (st' : State) → (O32 d).step st k ≡ next j p st' → p.kind.size ≡ (kind_of k).size
  size_is st k j p st' e = ap (λ (x : Placement). x.kind.size) (step-described d st k j p st' e).at

  abbrev pub O32-premises : Premises (O32 d)
  O32-premises = record {
    laws = O32-laws d;
    Held = λ n st. Held n 0 st;
    held_first = held_starts;
    held_next = λ n st k j p st' h e f.
        held_on h (step_grows d st k e) (leb-true st'.end end_most f) (n + 1 + p.kind.size) 0 (omega (arith, size_is st k j p st' e));
    held_small = λ n st h. omega (arith, held_place n 0 st h);
    size_small = λ st k j p st' e. omega (arith, size_is st k j p st' e, (kind_facts k).small);
    number = λ st k. argument st.prefix (kind_of k);
    place = λ st k. placement d st (kind_of k);
    advance = λ st k. advance st (kind_of k);
    stepped = λ st k j p st' e. let w = step-described d st k j p st' e in rw (w.number, w.at, w.on) refl;
  }
