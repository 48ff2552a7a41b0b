-- What each step of O32 gives, on every device: the image bytes of a record are new and inside the image. So the carried-bytes
-- theorem holds of it.
-- Assumes nothing.
use mathlib.Core.Path.{◌≡◌, refl, sym, ◌∙◌, subst}
use mathlib.Core.Logic.{◌⊎◌, inl, inr}
use mathlib.Core.List.{List, [], ◌∷◌, map}
use mathlib.Core.Bool.{Bool, true, false, cond, not, ◌&&◌}
use Prim.Native.Nat.{ℕ, zero, suc, ◌+◌, ◌-◌, ◌*◌, ◌≤◌, ◌<◌}
use native.Mathlib.Omega.{arith}
use lib.ListN.{length, length-map}
use lib.Dec.{eqb, ltb}
use borrow.Author.Tests.{ltb-true, ltb-false, eqb-true}
use Rattle.words.specs.Words.{up, Extension, zeros, to_word, promote}
use Rattle.device.specs.declared.Device.{Device}
use Rattle.device.specs.declared.Device.TheVariants.{Fpu, NoFpu}
use Rattle.carried.specs.Image.{Placed}
use Rattle.carried.specs.Convention.{Step, refuse, next, complete, scan}
use Rattle.places.specs.Places.{In, Distinct, run}
use Rattle.carried.specs.Carried.{Carried, RoundTrip}
use Rattle.places.proofs.Places.{in_cases, distinct_append}
use Rattle.carried.proofs.Walks.{StepLaws, StepLawful, Laws}
use Rattle.carried.proofs.Theorem.{theorem}
use Rattle.carried.proofs.RoundTrip.{round_trip}
use Rattle.kinds.specs.declared.Class.{Class}
use Rattle.kinds.specs.declared.Class.TheVariants.{Unknown, Marker, Pointer, Signed, Unsigned, Float, Plain, Structure}
use Rattle.kinds.specs.declared.Kind.{Kind}
use Rattle.o32.specs.declared.State.{State}
use Rattle.o32.specs.declared.Placement.{Placement}
use Rattle.kinds.specs.Kinds.{kind_of}
use Rattle.o32_offsets.specs.Offsets.{ending}
use Rattle.o32.specs.O32.{float_register, float_registers, register_bytes, float_bytes, carrier, area, advance, stepped, O32}
use Rattle.rules.specs.Rules.{misplaced, full}
use Rattle.kinds.proofs.KindFacts.{Facts, kind_facts}
use Rattle.words.proofs.Promotion.{extended-length}
use Rattle.places.proofs.Runs.{length_run, run_at, run_distinct}
use Rattle.o32_offsets.proofs.Offsets.{up-ge}

-- ---- bytes by offset: p carries an offset at or after o

abbrev After : ℕ → ℕ → Type 0
After o p = ((o ≤ p) × (p < 16)) ⊎ ((32 + o ≤ p) × (48 ≤ p))

after_mono : (o o' p : ℕ) → o ≤ o' → After o' p → After o p
after_mono o o' p h (inl x) = inl (omega arith)
after_mono o o' p h (inr x) = inr (omega arith)

-- no byte of a floating register does
not_floating : (o p : ℕ) → After o p → 16 ≤ p → p < 32 → ⊥
not_floating o p (inl x) h k = omega arith
not_floating o p (inr x) h k = omega arith

-- p carries an offset from o on and before e
record Between (o e p : ℕ) : Type 0 where
  from : After o p
  before : After e p → ⊥
  inside : p < 32 + e

between_mono : (a b c d p : ℕ) → a ≤ b → c ≤ d → Between b c p → Between a d p
between_mono a b c d p h k t = record {
  from = after_mono a b p h t.from;
  before = λ l. t.before (after_mono c d p k l);
  inside = omega arith;
}

carrier-at : (o p : ℕ) → p ≡ carrier o → Between o (suc o) p
carrier-at o p e = go (ltb o 16) refl e
  where
    go : (t : Bool) → ltb o 16 ≡ t → p ≡ cond t o (32 + o) → Between o (suc o) p
    go true t e = record {
      from = inl (omega (arith, ltb-true o 16 t));
      before = λ h. elim h [ inl x ↦ omega arith | inr x ↦ omega (arith, ltb-true o 16 t) ];
      inside = omega arith;
    }
    go false t e = record {
      from = inr (omega (arith, ltb-false o 16 t));
      before = λ h. elim h [ inl x ↦ omega (arith, ltb-false o 16 t) | inr x ↦ omega arith ];
      inside = omega arith;
    }

-- n bytes from offset o on
abbrev pub span : ℕ → ℕ → List ℕ
span o n = map carrier (run o n)

span-at : (n o p : ℕ) → In p (span o n) → Between o (o + n) p
span-at zero o p m = absurd m
span-at (suc n) o p (inl e) = between_mono o o (suc o) (o + suc n) p (omega arith) (omega arith) (carrier-at o p e)
span-at (suc n) o p (inr m) = between_mono o (suc o) (suc o + n) (o + suc n) p (omega arith) (omega arith) (span-at n (suc o) p m)

span_distinct : (n o : ℕ) → Distinct (span o n)
span_distinct zero o = tt
span_distinct (suc n) o = ((λ m. (carrier-at o (carrier o) refl).before (span-at n (suc o) (carrier o) m).from), span_distinct n (suc o))

pub length-span : (n o : ℕ) → length (span o n) ≡ n
length-span n o = length-map (run o n) carrier ∙ length_run n o

-- ---- bytes of floating registers

-- the register whose word has this byte
record Holder (fs : List ℕ) (p : ℕ) : Type 0 where
  number : ℕ
  listed : In number fs
  inside : (16 + 4 * (number - 12) ≤ p) × (p < 20 + 4 * (number - 12))

holder : (fs : List ℕ) (p : ℕ) → In p (register_bytes fs) → Holder fs p
holder [] p m = absurd m
holder (f ∷ fs) p m = in_cases (run (16 + 4 * (f - 12)) 4) (register_bytes fs) p m
    (λ i. record { number = f; listed = inl refl; inside = omega (arith, run_at 4 (16 + 4 * (f - 12)) p i) })
    (λ i. let h = holder fs p i in record { number = h.number; listed = inr h.listed; inside = h.inside })

registers_distinct : (fs : List ℕ) → ((f : ℕ) → In f fs → 12 ≤ f) → Distinct fs → Distinct (register_bytes fs)
registers_distinct [] h d = tt
registers_distinct (f ∷ fs) h d = distinct_append (run (16 + 4 * (f - 12)) 4) (register_bytes fs) (run_distinct 4 (16 + 4 * (f - 12)))
    (registers_distinct fs (λ g i. h g (inr i)) d.1)
    (λ p i j.
    let w = holder fs p j in
    let e : w.number ≡ f = omega (arith, w.inside, run_at 4 (16 + 4 * (f - 12)) p i, h f (inl refl), h w.number (inr w.listed)) in
    d.0 (subst (λ (g : ℕ). In g fs) e w.listed))

-- those of a float: its register, or the two of the pair, in whichever order
float_registers_lem : (f size g : ℕ) → (size ≡ 4) ⊎ (size ≡ 8) → In g (float_registers f size) → (f ≤ g) × (g ≤ f + 1)
float_registers_lem f size g (inl e) m = elim (rw e at m) [ inl x ↦ omega arith | inr x ↦ absurd x ]
float_registers_lem f size g (inr e) m = elim (rw e at m) [ inl x ↦ omega arith | inr (inl x) ↦ omega arith | inr (inr x) ↦ absurd x ]

float_distinct : (f size : ℕ) → 12 ≤ f → (size ≡ 4) ⊎ (size ≡ 8) → Distinct (float_bytes f size)
float_distinct f size h z = registers_distinct (float_registers f size) (λ g i. omega (arith, float_registers_lem f size g z i)) (go z)
  where
    go : (size ≡ 4) ⊎ (size ≡ 8) → Distinct (float_registers f size)
    go (inl e) = rw e (absurd, tt)
    go (inr e) = rw e ((λ m. elim m [ inl x ↦ omega arith | inr x ↦ x ]), (absurd, tt))

pub float_at : (f size p : ℕ) → 12 ≤ f → (size ≡ 4) ⊎ (size ≡ 8) → In p (float_bytes f size) → (16 + 4 * (f - 12) ≤ p) × (p < 24 + 4 * (f - 12))
float_at f size p h z m = let w = holder (float_registers f size) p m in omega (arith, w.inside, float_registers_lem f size w.number z w.listed)

pub length_float : (f size : ℕ) → (size ≡ 4) ⊎ (size ≡ 8) → length (float_bytes f size) ≡ size
length_float f size (inl e) = rw e refl
length_float f size (inr e) = rw e refl

-- ---- the bytes that are free: those of later offsets, and the floating registers of this argument and the next

abbrev Unused : ℕ → ℕ → ℕ → Type 0
Unused end count p = After end p ⊎ ((16 + 8 * count ≤ p) × (p < 32))

abbrev Free : State → ℕ → Type 0
Free st p = Unused st.end st.prefix.count p

unused_mono : (e e' n n' p : ℕ) → e ≤ e' → n ≤ n' → Unused e' n' p → Unused e n p
unused_mono e e' n n' p h k (inl x) = inl (after_mono e e' p h x)
unused_mono e e' n n' p h k (inr x) = inr (omega arith)

laid_used : (o d e n p : ℕ) → d ≤ e → Between o d p → Unused e n p → ⊥
laid_used o d e n p h t (inl x) = t.before (after_mono d e p h x)
laid_used o d e n p h t (inr x) = not_floating o p t.from (omega arith) (omega arith)

float_used : (e n p : ℕ) → n < 2 → (16 + 8 * n ≤ p) × (p < 24 + 8 * n) → Unused e (n + 1) p → ⊥
float_used e n p h t (inl x) = not_floating e p x (omega arith) (omega arith)
float_used e n p h t (inr x) = omega arith

long_mono : (a b : ℕ) → a ≤ b → 32 + area a ≤ 32 + area b
long_mono a b h = omega arith

-- ---- the steps

-- a byte or halfword becomes a word
ends : (o m : ℕ) → o + m ≤ o + up 4 m
ends o m = omega (arith, up-ge 4 m (omega arith))

and_left : (a b : Bool) → a && b ≡ true → a ≡ true
and_left true b t = refl
and_left false b t = t

module _ (d : Device) where
  -- an argument by its offset: m bytes from o on
  module _ (st : State) (k : ℕ) {j : ℕ} (n : ℕ) (e : Extension) (o m : ℕ) (st' : State) where
    laid : st.end ≤ o → o + m ≤ st'.end → st.prefix.count ≤ st'.prefix.count → ((b : List ℕ) → length b ≡ n → length (promote e b) ≡ m)
        → StepLaws (O32 d) Free st k (record { kind = k; argument = j; size = n; extension = e; carriers = span o m }) st'
    laid h g l z = record {
      kind = refl;
      sized = λ b x. z b x ∙ sym (length-span m o);
      apart = span_distinct m o;
      free = λ p i. inl (after_mono st.end o p h (span-at m o p i).from);
      used = λ p i. laid_used o (o + m) st'.end st'.prefix.count p g (span-at m o p i);
      keeps = λ p. unused_mono st.end st'.end st.prefix.count st'.prefix.count p (omega arith) l;
      inside = λ p i. omega (arith, (span-at m o p i).inside, up-ge 8 st'.end (omega arith));
      grows = long_mono st.end st'.end (omega arith);
    }

  -- a float in the register pair f
  module _ (st : State) (k : ℕ) {j : ℕ} (n f : ℕ) (st' : State) where
    floated : 12 ≤ f → 4 * (f - 12) ≡ 8 * st.prefix.count → st.prefix.count < 2 → (n ≡ 4) ⊎ (n ≡ 8) → st.end ≤ st'.end → st'.prefix.count ≡ st.prefix.count + 1
        → StepLaws (O32 d) Free st k (record { kind = k; argument = j; size = n; extension = zeros 0; carriers = float_bytes f n }) st'
    floated h q c z g l = record {
      kind = refl;
      sized = λ b x. x ∙ sym (length_float f n z);
      apart = float_distinct f n h z;
      free = λ p i. inr (omega (arith, float_at f n p h z i));
      used = λ p i. rw l (float_used st'.end st.prefix.count p c (omega (arith, float_at f n p h z i)));
      keeps = λ p. unused_mono st.end st'.end st.prefix.count st'.prefix.count p g (omega arith);
      inside = λ p i. omega (arith, float_at f n p h z i);
      grows = long_mono st.end st'.end g;
    }

  abbrev Gives : State → ℕ → Step Placement State → Type 0
  Gives st k s = StepLawful (O32 d) Free st k s

  unless : (st : State) (k : ℕ) (t : Bool) (r j : ℕ) (s : Step Placement State) → Gives st k s → Gives st k (cond t (refuse r j) s)
  unless st k true r j s h = tt
  unless st k false r j s h = h

  module _ (st : State) (k n a : ℕ) where
    abbrev of : Class → Kind
    of c = record { size = n; alignment = a; class = c }

    by_offset : {j : ℕ} (e : Extension) (m : ℕ) (st' : State) → st'.end ≡ up a st.end + up 4 m → st'.prefix.count ≡ st.prefix.count + 1 → 1 ≤ a
        → ((b : List ℕ) → length b ≡ n → length (promote e b) ≡ m) → StepLaws (O32 d) Free st k (record { kind = k; argument = j; size = n; extension = e; carriers = span (up a st.end) m }) st'
    by_offset e m st' x y h = laid st k n e (up a st.end) m st' (up-ge a st.end h) (omega (arith, ends (up a st.end) m)) (omega arith)

    grown : Facts (of Float) → st.end ≤ ending (of Float) st.end
    grown s = omega (arith, up-ge a st.end (s.aligned refl), ends (up a st.end) n)

    -- a float with this register of rule 3, or by offset
    abbrev Placing : ℕ → Type 0
    Placing f = Gives st k (next (st.prefix.count + 1) (record { kind = of Float; offset = up a st.end; register = f }) (advance st (of Float)))

    by_register : (t u : Bool) → eqb st.prefix.count 0 ≡ t → eqb st.prefix.count 1 && st.floating && not st.prefix.marked ≡ u → Facts (of Float) → Placing (cond t 12 (cond u 14 0))
    by_register true u e f s =
        let z : st.prefix.count ≡ 0 = eqb-true st.prefix.count 0 e in
        floated st k n 12 (advance st (of Float)) (omega arith) (omega arith) (omega arith) (s.floats refl) (grown s) refl
    by_register false true e f s =
        let z : st.prefix.count ≡ 1 = eqb-true st.prefix.count 1 (and_left (eqb st.prefix.count 1) st.floating (and_left (eqb st.prefix.count 1 && st.floating) (not st.prefix.marked) f)) in
        floated st k n 14 (advance st (of Float)) (omega arith) (omega arith) (omega arith) (s.floats refl) (grown s) refl
    by_register false false e f s = by_offset (zeros 0) n _ refl refl (s.aligned refl) (λ b x. x)

    by_device : (e : Device) → Facts (of Float) → Placing (float_register e st)
    by_device Fpu s = by_register (eqb st.prefix.count 0) (eqb st.prefix.count 1 && st.floating && not st.prefix.marked) refl refl s
    by_device NoFpu s = by_offset (zeros 0) n _ refl refl (s.aligned refl) (λ b x. x)

    step_gives : (c : Class) → Facts (of c) → Gives st k (stepped d st (of c))
    step_gives Unknown s = tt
    step_gives Marker s = unless st k (misplaced st.prefix (of Marker)) 2 _ _
        (rw (s.markers refl).0 (laid st k 0 (zeros 0) st.end 0 _ (omega arith) (omega arith) (omega arith) (λ b x. x)))
    step_gives Pointer s =
        unless st k (misplaced st.prefix (of Pointer)) 2 _ _ (unless st k (full st.prefix (of Pointer)) 3 _ _ (by_offset (zeros 0) n _ refl refl (s.aligned refl) (λ b x. x)))
    step_gives Signed s =
        unless st k (full st.prefix (of Signed)) 3 _ _ (by_offset (to_word true n) 4 _ refl refl (s.aligned refl) (λ b. extended-length 4 true n b (omega (arith, s.promoted refl))))
    step_gives Unsigned s =
        unless st k (full st.prefix (of Unsigned)) 3 _ _ (by_offset (to_word false n) 4 _ refl refl (s.aligned refl) (λ b. extended-length 4 false n b (omega (arith, s.promoted refl))))
    step_gives Float s = unless st k (full st.prefix (of Float)) 3 _ _ (by_device d s)
    step_gives Plain s = unless st k (full st.prefix (of Plain)) 3 _ _ (by_offset (zeros 0) n _ refl refl (s.aligned refl) (λ b x. x))
    step_gives Structure s = unless st k (full st.prefix (of Structure)) 3 _ _ (by_offset (zeros 0) n _ refl refl (s.aligned refl) (λ b x. x))

  pub O32-laws : Laws (O32 d)
  O32-laws = record {
    Free = Free;
    steps = λ st k. step_gives st k (kind_of k).size (kind_of k).alignment (kind_of k).class (kind_facts k);
  }

  -- The carried-bytes theorem of O32, on every device, at every accepted signature.
  pub O32-carried : (sig : List ℕ) (L : List Placed) (last : State) → scan (O32 d) false sig ≡ complete L last → Carried (O32 d) sig L (32 + area last.end)
  O32-carried sig L last ok = theorem (O32 d) O32-laws sig L last ok

  -- And reading what its writer wrote gives the list back, for every accepted list.
  pub O32-round_trip : (l : List ℕ) (L : List Placed) (last : State) → scan (O32 d) true l ≡ complete L last → RoundTrip (O32 d) l L last
  O32-round_trip l L last ok = round_trip (O32 d) O32-laws l L last ok
