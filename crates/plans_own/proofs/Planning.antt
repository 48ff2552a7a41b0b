-- The pass that makes a plan: at each record, the entries so far are those of the kinds before it.
-- Assumes nothing.
use mathlib.Core.Path.{◌≡◌, refl, sym, ap, ◌∙◌}
use mathlib.Core.Logic.{◌⊎◌, inl, inr}
use mathlib.Core.List.{List, [], ◌∷◌, ◌++◌, append_assoc, append-nil}
use mathlib.Core.Bool.{Bool, true, false, cond}
use Prim.Native.Nat.{ℕ, ◌+◌, ◌-◌, ◌≤◌, ◌<◌}
use native.Mathlib.Omega.{arith}
use lib.ListN.{length, get_or, set}
use lib.Dec.{leb}
use borrow.Author.Tests.{leb-true, leb-false}
use Rattle.device.specs.declared.Device.{Device}
use Rattle.kinds.specs.declared.Class.TheVariants.{Marker}
use Rattle.kinds.specs.declared.Kind.{Kind}
use Rattle.kinds.specs.Kinds.{kind_of, is}
use Rattle.carried.specs.Convention.{body_length, scan}
use Rattle.carried.specs.Carried.{kinds}
use Rattle.carried.proofs.Walks.{Walk, walk_by_kinds}
use Rattle.passes.specs.Passes.{Admitted, placed_in}
use Rattle.passes.proofs.Ahead.{ahead_starts, ahead_ends, ahead_stepped, ahead_inside, Next, ahead_next}
use Rattle.o32.specs.declared.State.{State}
use Rattle.o32.specs.declared.Placement.{Placement}
use Rattle.o32.specs.O32.{O32, advance, placement, start, end_most, area, register}
use Rattle.o32_offsets.specs.Offsets.{lay}
use Rattle.o32_laws.proofs.Laws.{O32-laws}
use Rattle.o32_laws.proofs.Steps.{step-described, ends_within, register-floats}
use Rattle.o32_laws.proofs.Bounds.{not_full}
use Rattle.o32_laws.proofs.Carrying.{reach, reach_end, register_by_kinds}
use Rattle.o32_laws.proofs.Numbering.{reach-count}
use Rattle.o32_laws.proofs.Refusing.{end_is}
use Rattle.o32_laws.proofs.Premises.{O32-premises}
use Rattle.o32_step.proofs.Ahead.{O32-ahead}
use Rattle.plans.specs.declared.Entry.{Entry}
use Rattle.plans.specs.Plans.{entry_after, entries_after, padded, plan_of, no_plan}
use Rattle.plans.proofs.Entries.{entries_argument, entries_marker, entries_count, padded-set}

-- a state after more kinds
reach-append : (ks : List ℕ) (k : ℕ) (st : State) → reach st (ks ++ (k ∷ [])) ≡ advance (reach st ks) (kind_of k)
reach-append [] k st = refl
reach-append (j ∷ ks) k st = reach-append ks k (advance st (kind_of j))

-- a floating register's number is small
register_small : (d : Device) (st : State) (k : Kind) → register d st k ≤ 14
register_small d st k = go (leb 1 (register d st k)) refl
  where
    named : (register d st k ≡ 12) ⊎ (register d st k ≡ 14) → register d st k ≤ 14
    named (inl e) = omega arith
    named (inr e) = omega arith

    go : (t : Bool) → leb 1 (register d st k) ≡ t → register d st k ≤ 14
    go true e = named (register-floats d st k (leb-true 1 (register d st k) e)).1
    go false e = omega (arith, leb-false 1 (register d st k) e)

-- all kinds of what was accepted
abbrev kinds_in : Device → Bool → List ℕ → List ℕ
kinds_in d bodies l = kinds (placed_in (scan (O32 d) bodies l))

pub record Planning (d : Device) (bodies : Bool) (l : List ℕ) (m : ℕ) (entries : List Entry) (st : State) (at : ℕ) : Type 0 where
  pub ahead : O32-ahead d bodies l m st at
  pub before : List ℕ
  pub reached : st ≡ reach start before
  pub all : before ++ kinds ahead.rest.placed ≡ kinds_in d bodies l
  pub entered : entries ≡ padded (entries_after d [] before)

pub planning_starts : (d : Device) (bodies : Bool) (l : List ℕ) (m : ℕ) {entries : List Entry} {st : State} → Admitted (O32 d) bodies l m
    → entries ≡ no_plan.entries → st ≡ start → Planning d bodies l m entries st 0
planning_starts d bodies l m a e f = rw f (record {
  ahead = ahead_starts (O32-premises d) a;
  before = [];
  reached = refl;
  all = rw a.scanned;
  entered = e;
})

-- the walk of the whole, by its kinds
whole-walk : (d : Device) {bodies : Bool} {l : List ℕ} {m : ℕ} (a : Admitted (O32 d) bodies l m) → Walk (O32 d) (O32-laws d) start (kinds_in d bodies l) a.placed a.last
whole-walk d {bodies} {l} a = rw a.scanned (walk_by_kinds (O32 d) (O32-laws d) bodies l a.placed a.last a.scanned)

module _ {d : Device} {bodies : Bool} {l : List ℕ} {m : ℕ} {entries : List Entry} {st : State} {at : ℕ} (w : Planning d bodies l m entries st at) where
  -- the state counts the entries
  planning_count : st.prefix.count ≡ length (entries_after d [] w.before)
  planning_count = rw w.reached (reach-count start w.before ∙ omega (arith, entries_count d [] w.before))

  module _ (a : Admitted (O32 d) bodies l m) (h : at < length l) where
    abbrev k : ℕ
    k = get_or l at 0

    abbrev here : Placement
    here = placement d st (kind_of k)

    abbrev ahead_of : Next w.ahead h (at + 1 + body_length bodies (kind_of k).size)
    ahead_of = ahead_next w.ahead h refl

    -- this kind among all
    joined : w.before ++ (k ∷ kinds ahead_of.rest.rest.placed) ≡ kinds_in d bodies l
    joined = rw ahead_of.split at w.all

    entry_here : entry_after d w.before k ≡ record { kind = k; register = here.register; offset = here.offset }
    entry_here =
        let v : Walk (O32 d) (O32-laws d) start (w.before ++ (k ∷ kinds ahead_of.rest.rest.placed)) a.placed a.last = rw joined (whole-walk d a) in
        rw (← register_by_kinds d w.before k (kinds ahead_of.rest.rest.placed) a.placed a.last v, w.reached, reach_end w.before start) refl

    -- it fits an entry
    fits : (here.register ≤ 14) × (here.offset ≤ end_most)
    fits =
        let f : (advance st (kind_of k)).end ≤ end_most = leb-true (advance st (kind_of k)).end end_most (ahead_stepped w.ahead h).1 in
        (register_small d st (kind_of k), omega (arith, ends_within st k))

    -- an argument has an entry left
    room : is Marker (kind_of k) ≡ false → st.prefix.count < 32
    room e =
        let s = step-described d st k _ _ _ (ahead_stepped w.ahead h).0 in
        omega (arith, leb-false 32 st.prefix.count (not_full (is Marker (kind_of k)) (leb 32 st.prefix.count) s.few e))

    turn : {entries' : List Entry} {st' : State} {at' : ℕ} → st' ≡ advance st (kind_of k) → at' ≡ at + 1 + body_length bodies (kind_of k).size
        → entries' ≡ cond (is Marker (kind_of k)) entries (set entries st.prefix.count (record { kind = k; register = here.register; offset = here.offset }))
        → Planning d bodies l m entries' st' at'
    turn {entries'} e f g = rw (e, f) (record {
      ahead = ahead_of.rest;
      before = w.before ++ (k ∷ []);
      reached = rw w.reached (sym (reach-append w.before k start));
      all = append_assoc w.before (k ∷ []) (kinds ahead_of.rest.rest.placed) ∙ joined;
      entered = g ∙ go (is Marker (kind_of k)) refl;
    })
      where
        go : (t : Bool) → is Marker (kind_of k) ≡ t → cond t entries (set entries st.prefix.count (record { kind = k; register = here.register; offset = here.offset }))
            ≡ padded (entries_after d [] (w.before ++ (k ∷ [])))
        go true t = w.entered ∙ ap padded (sym (entries_marker d w.before k t))
        go false t =
            let E : List Entry = entries_after d [] w.before in
            let n : ℕ = st.prefix.count in
            ap (λ (es : List Entry). set es n (record { kind = k; register = here.register; offset = here.offset })) w.entered
            ∙ ap (λ (i : ℕ). set (padded E) i (record { kind = k; register = here.register; offset = here.offset })) planning_count
            ∙ ap (λ (e : Entry). set (padded E) (length E) e) (sym entry_here)
            ∙ padded-set E (entry_after d w.before k) (omega (arith, planning_count, room t))
            ∙ ap padded (sym (entries_argument d w.before k t))

  -- the same of what the code has found of the record
  module _ (a : Admitted (O32 d) bodies l m) (h : at < length l) {kd : Kind} (e : kd ≡ kind_of (get_or l at 0)) {p : Placement} (g : p ≡ placement d st kd) where
    pub planning_inside : at + 1 + body_length bodies kd.size ≤ length l
    planning_inside = rw e (ahead_inside w.ahead h)

    pub planning_fits : (p.register ≤ 14) × (p.offset ≤ end_most)
    planning_fits = rw (g, e) (fits a h)

    pub planning_room : is Marker kd ≡ false → st.prefix.count < 32
    planning_room = rw e (room a h)

    module _ {st' : State} {at' : ℕ} (o : st' ≡ advance st kd) (f : at' ≡ at + 1 + body_length bodies kd.size) where
      pub planning_argument : {x : Entry} {entries' : List Entry} → is Marker kd ≡ false → x ≡ record { kind = get_or l at 0; register = p.register; offset = p.offset }
          → entries' ≡ set entries st.prefix.count x → Planning d bodies l m entries' st' at'
      planning_argument i j q = turn a h (o ∙ ap (advance st) e) (f ∙ rw e refl) (q ∙ rw (j, g, e, rw e at i) refl)

      pub planning_marker : {entries' : List Entry} → is Marker kd ≡ true → entries' ≡ entries → Planning d bodies l m entries' st' at'
      planning_marker i q = turn a h (o ∙ ap (advance st) e) (f ∙ rw e refl) (q ∙ rw (rw e at i) refl)

-- where no record is left, it is the plan
pub planning_ends : {d : Device} {bodies : Bool} {l : List ℕ} {m : ℕ} {entries : List Entry} {st : State} {at : ℕ} → Planning d bodies l m entries st at → Admitted (O32 d) bodies l m
    → length l ≤ at → (record { entries = entries; count = st.prefix.count; area = m - 32 }) ≡ plan_of d (kinds_in d bodies l)
planning_ends {d} {bodies} {l} {m} {entries} {st} w a h =
    let z : w.ahead.rest.placed ≡ [] = ahead_ends w.ahead h in
    let b : w.before ≡ kinds_in d bodies l = sym (append-nil w.before) ∙ (rw z at w.all) in
    let e : a.last.end ≡ (lay 0 (kinds_in d bodies l)).end = end_is d (whole-walk d a) in
    let s : m - 32 ≡ area (lay 0 (kinds_in d bodies l)).end = ap (λ (n : ℕ). n - 32) a.whole ∙ rw e (omega arith) in
    rw (s, w.entered, planning_count w, b) refl
