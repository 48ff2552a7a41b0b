-- What holds of a record that a step of O32 places: its placement, the state after it, and where it ends; and the number that the
-- step reports, also where it refuses.
-- Assumes nothing.
use mathlib.Core.Path.{◌≡◌, refl, ap, ◌∙◌, subst}
use mathlib.Core.Logic.{◌⊎◌, inl, inr}
use mathlib.Core.Bool.{Bool, true, false, cond, not, ◌&&◌}
use Prim.Native.Nat.{ℕ, ◌+◌, ◌%◌, ◌≤◌}
use native.Mathlib.Omega.{arith}
use lib.Dec.{eqb}
use Rattle.device.specs.declared.Device.{Device}
use Rattle.device.specs.declared.Device.TheVariants.{Fpu, NoFpu}
use Rattle.carried.specs.Convention.{Step, refuse, next}
use Rattle.kinds.specs.declared.Class.TheVariants.{Unknown, Marker, Float}
use Rattle.kinds.specs.declared.Kind.{Kind}
use Rattle.o32.specs.declared.State.{State}
use Rattle.o32.specs.declared.Placement.{Placement}
use Rattle.kinds.specs.Kinds.{kind_of, is}
use Rattle.words.specs.Words.{up}
use Rattle.o32_offsets.specs.Offsets.{width, offset}
use Rattle.o32.specs.O32.{float_register, register, advance, placement, stepped, O32}
use Rattle.rules.specs.Rules.{misplaced, full, argument}
use Rattle.kinds.proofs.KindFacts.{kind_facts}
use Rattle.o32_offsets.proofs.Offsets.{up-ge, none-up, marker-width}

pub record Stepped (d : Device) (st : State) (k : Kind) (j : ℕ) (p : Placement) (st' : State) : Type 0 where
  pub number : j ≡ argument st.prefix k
  pub at : p ≡ placement d st k
  pub on : st' ≡ advance st k
  pub known : is Unknown k ≡ false
  pub rightly : misplaced st.prefix k ≡ false
  pub few : full st.prefix k ≡ false

abbrev pub Describes : Device → State → Kind → Step Placement State → Type 0
Describes d st k (refuse r j) = j ≡ argument st.prefix k
Describes d st k (next j p st') = Stepped d st k j p st'

pub describes : (d : Device) (st : State) (k : Kind) → Describes d st k (stepped d st k)
describes d st k = go (is Unknown k) (misplaced st.prefix k) (full st.prefix k) refl refl refl
  where
    go : (u m f : Bool) → is Unknown k ≡ u → misplaced st.prefix k ≡ m → full st.prefix k ≡ f
        → Describes d st k (cond u (refuse 1 (argument st.prefix k)) (cond m (refuse 2 (argument st.prefix k)) (cond f (refuse 3 (argument st.prefix k)) (next (argument st.prefix k) (placement d st k) (advance st k)))))
    go true m f h e g = refl
    go false true f h e g = refl
    go false false true h e g = refl
    go false false false h e g = record { number = refl; at = refl; on = refl; known = h; rightly = e; few = g }

pub step-described : (d : Device) (st : State) (k j : ℕ) (p : Placement) (st' : State) → (O32 d).step st k ≡ next j p st' → Stepped d st (kind_of k) j p st'
step-described d st k j p st' e = subst (Describes d st (kind_of k)) e (describes d st (kind_of k))

-- ---- where a record ends

-- a record's bytes end where its state does; a marker has none, at offset 0
pub ends_within : (st : State) (k : ℕ) → offset (kind_of k) st.end + width (kind_of k) ≤ (advance st (kind_of k)).end
ends_within st k = go (is Marker (kind_of k)) refl
  where
    go : (t : Bool) → is Marker (kind_of k) ≡ t → offset (kind_of k) st.end + width (kind_of k) ≤ (advance st (kind_of k)).end
    go true f =
        let z : ((kind_of k).size ≡ 0) × ((kind_of k).alignment ≡ 0) = (kind_facts k).markers f in
        let o : offset (kind_of k) st.end ≡ 0 = ap (λ (a : ℕ). up a st.end) z.1 ∙ none-up st.end in
        let w : width (kind_of k) ≡ 0 = marker-width (kind_of k) f z.0 in
        omega arith
    go false f = rw f (omega (arith, up-ge 4 (width (kind_of k)) (omega arith)))

-- every record lies at a word
pub word-aligned : (k end : ℕ) → offset (kind_of k) end % 4 ≡ 0
word-aligned k end = go (kind_of k).alignment (kind_facts k).alignments
  where
    go : (a : ℕ) → (a ≡ 0) ⊎ (a ≡ 4) ⊎ (a ≡ 8) → up a end % 4 ≡ 0
    go a (inl e) = rw (e, none-up end)
    go a (inr (inl e)) = rw e (omega arith)
    go a (inr (inr e)) = rw e (omega arith)

-- a floating register is $f12 or $f14, and its argument a float
abbrev Named : ℕ → Type 0
Named f = (f ≡ 12) ⊎ (f ≡ 14)

float_named : (d : Device) (st : State) → 1 ≤ float_register d st → Named (float_register d st)
float_named NoFpu st h = absurd (omega arith)
float_named Fpu st h = go (eqb st.prefix.count 0) (eqb st.prefix.count 1 && st.floating && not st.prefix.marked) h
  where
    go : (t u : Bool) → 1 ≤ cond t 12 (cond u 14 0) → Named (cond t 12 (cond u 14 0))
    go true u h = inl refl
    go false true h = inr refl
    go false false h = absurd (omega arith)

pub register-floats : (d : Device) (st : State) (k : Kind) → 1 ≤ register d st k → (is Float k ≡ true) × ((register d st k ≡ 12) ⊎ (register d st k ≡ 14))
register-floats d st k h = go (is Float k) h
  where
    go : (t : Bool) → 1 ≤ cond t (float_register d st) 0 → (t ≡ true) × Named (cond t (float_register d st) 0)
    go true h = (refl, float_named d st h)
    go false h = absurd (omega arith)
