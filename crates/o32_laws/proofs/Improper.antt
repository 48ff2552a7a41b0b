-- Refusal 8 by the kinds: the first record that is improper is the first kind 01 to 04 whose word is no proper promotion.
-- Assumes nothing.
use mathlib.Core.Path.{◌≡◌, refl, sym, ap, ◌∙◌, subst}
use mathlib.Core.Logic.{◌↔◌}
use mathlib.Core.List.{List, [], ◌∷◌, ◌++◌, map, append_assoc}
use mathlib.Core.Bool.{Bool, true, false, ◌||◌}
use Prim.Native.Nat.{ℕ, ◌<◌}
use native.Mathlib.Omega.{arith}
use lib.ListN.{length, length-append}
use borrow.Author.Tests.{eqb-true}
use Rattle.words.specs.Words.{zeros, proper}
use Rattle.words.proofs.Bytes.{proper-whole}
use Rattle.device.specs.declared.Device.{Device}
use Rattle.places.specs.Places.{gather, run}
use Rattle.carried.specs.Image.{Placed}
use Rattle.carried.specs.Convention.{complete, scan}
use Rattle.carried.specs.Carried.{kinds, AllProper}
use Rattle.places.proofs.Places.{length-gather}
use Rattle.carried.proofs.Readings.{is_proper}
use Rattle.carried.proofs.Refusals.{ImproperAt}
use Rattle.carried.proofs.Splits.{Later, later}
use Rattle.carried.proofs.Carriers.{Among, length-kinds}
use Rattle.kinds.specs.declared.Class.TheVariants.{Signed, Unsigned, Float}
use Rattle.kinds.specs.declared.Kind.{Kind}
use Rattle.o32.specs.declared.State.{State}
use Rattle.kinds.specs.Kinds.{kind_of, is, class_number}
use Rattle.o32_offsets.specs.Offsets.{extension, width}
use Rattle.o32.specs.O32.{O32, carrier}
use Rattle.o32_laws.specs.Carrying.{register_after, KindIn, offset_of}
use Rattle.o32_laws.specs.Refusing.{argument_after, Improper, FirstImproper}
use Rattle.o32_offsets.proofs.Offsets.{unpromoted_width}
use Rattle.o32_laws.proofs.Carrying.{unfloated}
use Rattle.o32_laws.proofs.Bytes.{record_of, Of, of, argument_of, in_carriers}
use Rattle.o32_laws.proofs.Numbering.{number_after}
use Rattle.words.proofs.Impossible.{impossible}

-- ---- all records of a list

pub proper-at : (img : List ℕ) (M : List Placed) (s : Placed) (N : List Placed) → AllProper (M ++ (s ∷ N)) img → is_proper s img ≡ true
proper-at img [] s N h = h.0
proper-at img (m ∷ M) s N h = proper-at img M s N h.1

all-proper : (img : List ℕ) (L : List Placed) → ((M : List Placed) (s : Placed) (N : List Placed) → L ≡ M ++ (s ∷ N) → is_proper s img ≡ true) → AllProper L img
all-proper img [] h = tt
all-proper img (s ∷ L) h = (h [] s L refl, all-proper img L (λ M t N e. h (s ∷ M) t N (ap (λ (K : List Placed). s ∷ K) e)))

apart : {t : Bool} → t ≡ true → t ≡ false → ⊥
apart e f = impossible (cc)

-- ---- one kind

abbrev promoted : Kind → Bool
promoted k = is Signed k || is Unsigned k

no_float : (k : Kind) → promoted k ≡ true → is Float k ≡ false
no_float k e = go (is Signed k) (is Unsigned k) refl refl e
  where
    go : (a b : Bool) → is Signed k ≡ a → is Unsigned k ≡ b → a || b ≡ true → is Float k ≡ false
    go true b f g h = rw (eqb-true (class_number k.class) 3 f)
    go false true f g h = rw (eqb-true (class_number k.class) 4 g)
    go false false f g h = cc

unextended : (k : Kind) → promoted k ≡ false → extension k ≡ zeros 0
unextended k e = go (is Signed k) (is Unsigned k) refl refl e
  where
    go : (a b : Bool) → is Signed k ≡ a → is Unsigned k ≡ b → a || b ≡ false → extension k ≡ zeros 0
    go false false f g h = rw (f, g)
    go false true f g h = cc
    go true b f g h = cc

module _ (d : Device) (sig : List ℕ) (L : List Placed) (last : State) (ok : scan (O32 d) false sig ≡ complete L last) (img : List ℕ) where
  abbrev word : KindIn sig → List ℕ
  word a = map carrier (run (offset_of a) 4)

  -- a kind that is promoted has its word by offset, and any other is proper
  word_test : (a : KindIn sig) → promoted (kind_of a.kind) ≡ true
      → is_proper (record_of d sig L last ok a) img ≡ proper (extension (kind_of a.kind)) (kind_of a.kind).size (gather img (word a))
  word_test a e =
      let z : register_after d a.before a.kind ≡ 0 = unfloated d a.before a.kind (no_float (kind_of a.kind) e) in
      let w : width (kind_of a.kind) ≡ 4 = rw e refl in
      rw (z, w) refl

  other_test : (a : KindIn sig) → promoted (kind_of a.kind) ≡ false → is_proper (record_of d sig L last ok a) img ≡ true
  other_test a e =
      let s : Placed = record_of d sig L last ok a in
      let n : length (gather img s.carriers) ≡ (kind_of a.kind).size =
      length-gather img s.carriers ∙ ap (λ (r : Placed). length r.carriers) (sym (of d sig L last ok a).record_placed) ∙ (of d sig L last ok a).carried_as.long
      ∙ unpromoted_width (kind_of a.kind) e in
      rw (unextended (kind_of a.kind) e) (proper-whole (kind_of a.kind).size (gather img s.carriers) n)

  test_improper : (a : KindIn sig) → Improper a img → is_proper (record_of d sig L last ok a) img ≡ false
  test_improper a h = word_test a h.0 ∙ h.1

  improper_test : (a : KindIn sig) → is_proper (record_of d sig L last ok a) img ≡ false → Improper a img
  improper_test a h = go (promoted (kind_of a.kind)) refl
    where
      go : (t : Bool) → promoted (kind_of a.kind) ≡ t → Improper a img
      go true e = (e, sym (word_test a e) ∙ h)
      go false e = impossible (cc (other_test a e))

  -- a record is improper where its argument is
  tests_as : (s : Placed) (a : KindIn sig) → s ≡ record_of d sig L last ok a → is_proper s img ≡ is_proper (record_of d sig L last ok a) img
  tests_as s a e = ap (λ (r : Placed). is_proper r img) e

  number_as : (s : Placed) (a : KindIn sig) → s ≡ record_of d sig L last ok a → s.argument ≡ argument_after a.before a.kind
  number_as s a e = ap (λ (r : Placed). r.argument) e ∙ number_after a.before a.kind

  -- a record of an argument that is improper, and one that is not
  improper_at : (a : KindIn sig) → Improper a img → is_proper (of d sig L last ok a).among.here img ≡ false
  improper_at a m = tests_as (of d sig L last ok a).among.here a (of d sig L last ok a).record_placed ∙ test_improper a m

  proper_unless : (here : Among L) → (Improper (argument_of d sig L last ok here) img → ⊥) → is_proper here.here img ≡ true
  proper_unless here h = go (is_proper here.here img) refl
    where
      go : (t : Bool) → is_proper here.here img ≡ t → is_proper here.here img ≡ true
      go true e = e
      go false e =
          let a : KindIn sig = argument_of d sig L last ok here in
          absurd (h (improper_test a (sym (tests_as here.here a (in_carriers d sig L last ok here)) ∙ e)))

  -- all records of an image are proper exactly when no argument is improper,
  pub proper_exactly : AllProper L img ↔ ((a : KindIn sig) → Improper a img → ⊥)
  proper_exactly = (
    (λ h a m.
        let v : Among L = (of d sig L last ok a).among in
        apart (proper-at img v.before v.here v.after (subst (λ (K : List Placed). AllProper K img) v.records h)) (improper_at a m)),
    λ h. all-proper img L (λ M s N e.
        let here : Among L = record { before = M; here = s; after = N; records = e } in
        proper_unless here (h (argument_of d sig L last ok here))),
  )

  -- and the first that is not is that of the first argument that is.
  pub improper_exactly : (place j : ℕ) → ImproperAt img L place j ↔ FirstImproper sig img place j
  improper_exactly place j = (there, back)
    where
      there : ImproperAt img L place j → FirstImproper sig img place j
      there w =
          let here : Among L = record { before = w.before; here = w.here; after = w.after; records = w.records } in
          let a : KindIn sig = argument_of d sig L last ok here in
          let e : w.here ≡ record_of d sig L last ok a = in_carriers d sig L last ok here in
          record {
            argument = a;
            at = w.placed ∙ sym (length-kinds w.before);
            improper = improper_test a (sym (tests_as w.here a e) ∙ w.improper);
            first = λ b h m.
                let o : Of d sig L last ok b = of d sig L last ok b in
                let v : Among L = o.among in
                let r : Later v.before v.here w.before =
                later v.before v.here v.after w.before w.here w.after (sym v.records ∙ w.records) (omega (arith, o.long, w.placed)) in
                apart (proper-at img v.before v.here r.between (subst (λ (K : List Placed). AllProper K img) r.before w.proper-before)) (improper_at b m);
            number = w.number ∙ number_as w.here a e;
          }

      back : FirstImproper sig img place j → ImproperAt img L place j
      back w =
          let o : Of d sig L last ok w.argument = of d sig L last ok w.argument in
          let v : Among L = o.among in
          record {
            before = v.before;
            here = v.here;
            after = v.after;
            records = v.records;
            placed = w.at ∙ sym o.long;
            number = w.number ∙ sym (number_as v.here w.argument o.record_placed);
            proper-before = all-proper img v.before (λ M s N e.
                let here : Among L = record {
                  before = M;
                  here = s;
                  after = N ++ (v.here ∷ v.after);
                  records = v.records ∙ ap (λ (K : List Placed). K ++ (v.here ∷ v.after)) e ∙ append_assoc M (s ∷ N) (v.here ∷ v.after);
                } in
                let n : length (kinds M) < place = omega (arith, w.at, o.long, ap length e, length-append M (s ∷ N), length-kinds M) in
                proper_unless here (w.first (argument_of d sig L last ok here) n));
            improper = improper_at w.argument w.improper;
          }
