-- Whatever is a prologue enters the frame, and two codes that do leave the same state, program counter aside.
-- Assumes nothing.
use mathlib.Core.Path.{◌≡◌, refl, sym, ap, ◌∙◌, subst, fun_ext}
use mathlib.Core.Logic.{◌⊎◌, inl, inr}
use mathlib.Core.List.{List, [], ◌∷◌, nil≢cons, head-eq_of_cons-eq, tail-eq_of_cons-eq}
use mathlib.Core.Option.{none}
use Prim.Native.Nat.{ℕ, suc, ◌+◌, ◌-◌, ◌%◌, ◌<◌, ◌≤◌}
use native.Mathlib.Omega.{arith}
use native.Mathlib.Decide.{ℕ_discrete}
use lib.ListN.{length}
use Rattle.machine.specs.Machine.{State, next_address, later_address, proceed, Holds, Runs}
use Rattle.machine.proofs.Steps.{upd_same, upd_other, step_nop}
use Rattle.machine.proofs.Runs.{runs_end, runs_step}
use Rattle.frame.specs.Words.{Save, store_word, lowering}
use Rattle.frame.specs.Keeping.{Entry}
use Rattle.frame.proofs.Saves.{All, Span, span-le, Fit, contents, Sound}
use Rattle.frame.proofs.Each.{Line, follows_next, proceed_line, Area, Goes}
use Rattle.frame.proofs.Stores.{store, store_goes, Stored}
use Rattle.frame.proofs.Prologue.{Entered, area, no_saves, lower, entered, step_lowers}
use Rattle.prologues.specs.Checking.{count, instructions}
use Rattle.prologues.specs.Prologues.{Among, StoresOnce, IsPrologue, SameExceptPc}
use Rattle.prologues.proofs.Counting.{all_among, among_all, count_other, count_none, among_instructions, instructions-none, instructions-zero, instructions_more, count-instructions}
use Rattle.prologues.proofs.StoreWords.{store_nonzero, store-offset}

-- ---- saves in a span

-- each lies inside, and its offset is no other's
pub span-from : (lo : ℕ) (vs : List Save) (hi : ℕ) → Span lo vs hi → (v : Save) → Among v vs → (lo ≤ v.offset) × (v.offset + 4 ≤ hi)
span-from lo [] hi d v i = absurd i
span-from lo (u ∷ us) hi d v (inl e) =
    subst (λ (x : Save). (lo ≤ x.offset) × (x.offset + 4 ≤ hi)) (sym e) (d.0, span-le (u.offset + 4) us hi d.1)
span-from lo (u ∷ us) hi d v (inr i) = let h = span-from (u.offset + 4) us hi d.1 v i in (omega (arith, d.0, h.0), h.1)

span_one : (lo : ℕ) (vs : List Save) (hi : ℕ) → Span lo vs hi → (u v : Save) → Among u vs → Among v vs → u.offset ≡ v.offset → u ≡ v
span_one lo [] hi d u v i j e = absurd i
span_one lo (x ∷ xs) hi d u v (inl a) (inl b) e = a ∙ sym b
span_one lo (x ∷ xs) hi d u v (inl a) (inr j) e =
    absurd (omega (arith, (span-from (x.offset + 4) xs hi d.1 v j).0, ap (λ (y : Save). y.offset) a, e))
span_one lo (x ∷ xs) hi d u v (inr i) (inl b) e =
    absurd (omega (arith, (span-from (x.offset + 4) xs hi d.1 u i).0, ap (λ (y : Save). y.offset) b, e))
span_one lo (x ∷ xs) hi d u v (inr i) (inr j) e = span_one (x.offset + 4) xs hi d.1 u v i j e

module _ (F : ℕ) (vs : List Save) (d : Sound F vs) where
  pub fits : (v : Save) → Among v vs → Fit v
  fits = all_among Fit vs d.fit

  pub inside : (v : Save) → Among v vs → v.offset + 4 ≤ F
  inside v i = (span-from 0 vs F d.span v i).1

  -- a word is the store of one save
  pub store_one : (u v : Save) → Among u vs → Among v vs → store_word u ≡ store_word v → u ≡ v
  store_one u v i j e =
      span_one 0 vs F d.span u v i j
      (sym (store-offset u (omega (arith, inside u i, d.small))) ∙ ap (λ (w : ℕ). w % 65536) e ∙ store-offset v (omega (arith, inside v j, d.small)))

  -- ---- stores in any order, with 00000000 between them

  -- The registers are as they were, and so is what is no save word; a save word holds its register if it did, or if its store is
  -- among the words.
  record Obeyed (p : ℕ) (ws : List ℕ) (s t : State) : Type 0 where
    pub at : t.pc ≡ later_address (length ws) s.pc
    pub slot : t.target ≡ none
    pub reg : t.reg ≡ s.reg
    pub freg : t.freg ≡ s.freg
    pub elsewhere : (a : ℕ) → ((v : Save) → Among v vs → a ≡ p + v.offset → ⊥) → t.mem a ≡ s.mem a
    pub saved : (v : Save) → Among v vs → (s.mem (p + v.offset) ≡ contents s v) ⊎ (0 < count (store_word v) ws) → t.mem (p + v.offset) ≡ contents s v

  module _ (p w : ℕ) (ws : List ℕ) (s t : State) where
    -- 00000000 changes nothing
    obeyed_nop : w ≡ 0 → s.target ≡ none → Obeyed p ws (proceed s s.reg s.freg s.mem) t → Obeyed p (w ∷ ws) s t
    obeyed_nop z n o = record {
      at = o.at ∙ ap (later_address (length ws)) (follows_next s n);
      slot = o.slot;
      reg = o.reg;
      freg = o.freg;
      elsewhere = o.elsewhere;
      saved = λ v i h. o.saved v i (later v h);
    }
      where
        later : (v : Save) → (s.mem (p + v.offset) ≡ contents s v) ⊎ (0 < count (store_word v) (w ∷ ws)) → (s.mem (p + v.offset) ≡ contents s v) ⊎ (0 < count (store_word v) ws)
        later v (inl e) = inl e
        later v (inr h) = inr (omega (arith, h, count_other (store_word v) w ws (λ e. store_nonzero v (sym e ∙ z))))

    -- a save word holds its register from its store on: a later store at its place is of the same save
    obeyed_store : (u : Save) → Among u vs → w ≡ store_word u → s.target ≡ none → Obeyed p ws (store p u s) t → Obeyed p (w ∷ ws) s t
    obeyed_store u i q n o = record {
      at = o.at ∙ ap (later_address (length ws)) (follows_next s n);
      slot = o.slot;
      reg = o.reg;
      freg = o.freg;
      elsewhere = λ a h. o.elsewhere a h ∙ upd_other s.mem (p + u.offset) (contents s u) a (h u i);
      saved = λ v j h. o.saved v j (later v j (ℕ_discrete u.offset v.offset) h);
    }
      where
        later : (v : Save) → Among v vs → Dec (u.offset ≡ v.offset) → (s.mem (p + v.offset) ≡ contents s v) ⊎ (0 < count (store_word v) (w ∷ ws))
            → ((store p u s).mem (p + v.offset) ≡ contents s v) ⊎ (0 < count (store_word v) ws)
        later v j (yes e) h =
            inl (subst (λ (x : Save). (store p u s).mem (p + x.offset) ≡ contents s x) (span_one 0 vs F d.span u v i j e)
            (upd_same s.mem (p + u.offset) (contents s u)))
        later v j (no m) (inl e) = inl (upd_other s.mem (p + u.offset) (contents s u) (p + v.offset) (λ x. m (omega (arith, x))) ∙ e)
        later v j (no m) (inr h) =
            inr (omega (arith, h, count_other (store_word v) w ws (λ e. m (ap (λ (x : Save). x.offset) (store_one u v i j (sym q ∙ e))))))

  module _ (code : ℕ → ℕ) (p : ℕ) (a : Area p F) where
    runs_stores : (ws : List ℕ) (s : State) → ((w : ℕ) → Among w ws → (w ≡ 0 → ⊥) → (v : Save) × Among v vs × (w ≡ store_word v)) → Line p s → Holds code s.pc ws
        → Runs code ws s (Obeyed p ws s)
    runs_stores [] s h l c = runs_end (record {
      at = refl;
      slot = l.slot;
      reg = refl;
      freg = refl;
      elsewhere = λ _ _. refl;
      saved = λ v i x. kept v x;
    })
      where
        kept : (v : Save) → (s.mem (p + v.offset) ≡ contents s v) ⊎ (0 < count (store_word v) []) → s.mem (p + v.offset) ≡ contents s v
        kept v (inl e) = e
        kept v (inr h) = absurd (omega (arith, h, count_none (store_word v)))
    runs_stores (w ∷ ws) s h l c = by (ℕ_discrete w 0) (λ t m k. runs_stores ws t (λ x i. h x (inr i)) m k)
      where
        Rest : Type 0
        Rest = (t : State) → Line p t → Holds code t.pc ws → Runs code ws t (Obeyed p ws t)

        go : (t : State) → Goes code p s t → ((u : State) → Obeyed p ws t u → Obeyed p (w ∷ ws) s u) → Rest → Runs code (w ∷ ws) s (Obeyed p (w ∷ ws) s)
        go t g f rest =
            let r = rest t g.line (subst (λ (x : ℕ). Holds code x ws) (sym g.at) c.1) in
            runs_step g.steps (record { last = r.last; ran = r.ran; holds = f r.last r.holds })

        by : Dec (w ≡ 0) → Rest → Runs code (w ∷ ws) s (Obeyed p (w ∷ ws) s)
        by (yes z) rest =
            go (proceed s s.reg s.freg s.mem)
            (record { steps = step_nop code s l.whole (c.0 ∙ z); line = proceed_line s l.whole l.slot l.sp; at = follows_next s l.slot })
            (λ u o. obeyed_nop p w ws s u z l.slot o) rest
        by (no n) rest =
            let v = h w (inl refl) n in
            go (store p v.0 s) (store_goes code a v.0 s (fits v.0 v.1) (inside v.0 v.1) l (c.0 ∙ v.2))
            (λ u o. obeyed_store p w ws s u v.0 v.1 v.2 l.slot o) rest

  -- ---- the whole of it

  -- an earlier 00000000 changes nothing
  entered_later : (n : ℕ) (s t : State) → s.target ≡ none → Entered F vs n (proceed s s.reg s.freg s.mem) t → Entered F vs (suc n) s t
  entered_later n s t slot e = record {
    at = e.at ∙ ap (later_address n) (follows_next s slot);
    slot = e.slot;
    sp = e.sp;
    general = e.general;
    floating = e.floating;
    elsewhere = e.elsewhere;
    saved = e.saved;
  }

  module _ (code : ℕ → ℕ) where
    -- after the `addiu`
    runs_lowered : (F ≡ 0 → ⊥) → (ws : List ℕ) (s : State) → Entry F s → s.pc % 4 ≡ 0 → s.target ≡ none → StoresOnce vs (instructions ws)
        → Holds code s.pc (lowering F ∷ ws) → Runs code (lowering F ∷ ws) s (Entered F vs (suc (length ws)) s)
    runs_lowered z ws s e whole slot o c =
        let p : ℕ = s.reg 29 - F in
        let next : (lower F s).pc ≡ next_address s.pc = follows_next s slot in
        let r = runs_stores code p (area d e refl) ws (lower F s) (λ w i n. o.each w (among_instructions w ws n i)) (proceed_line s whole slot (upd_same s.reg 29 p))
        (subst (λ (x : ℕ). Holds code x ws) (sym next) c.1) in
        runs_step (step_lowers code F vs s d e whole slot z c.0) (record {
          last = r.last;
          ran = r.ran;
          holds = entered d (stored-all (lower F s) r.last r.holds) (r.holds.at ∙ ap (later_address (length ws)) next) r.holds.slot;
        })
      where
        stored-all : (s₁ t : State) → Obeyed (s.reg 29 - F) ws s₁ t → Stored (s.reg 29 - F) vs s₁ t
        stored-all s₁ t h = record {
          reg = h.reg;
          freg = h.freg;
          elsewhere = λ a n. h.elsewhere a (λ v i. all_among (λ v. a ≡ s.reg 29 - F + v.offset → ⊥) vs n v i);
          saved = among_all (λ v. t.mem (s.reg 29 - F + v.offset) ≡ contents s₁ v) vs
              (λ v i. h.saved v i (inr (omega (arith, o.once v i, count-instructions (store_word v) ws (store_nonzero v)))));
        }

    runs_framed : (F ≡ 0 → ⊥) → (ws stores : List ℕ) (s : State) → Entry F s → s.pc % 4 ≡ 0 → s.target ≡ none → instructions ws ≡ lowering F ∷ stores → StoresOnce vs stores
        → Holds code s.pc ws → Runs code ws s (Entered F vs (length ws) s)
    runs_framed z [] stores s e whole slot q o c = absurd (nil≢cons (sym instructions-none ∙ q))
    runs_framed z (w ∷ ws) stores s e whole slot q o c = by (ℕ_discrete w 0) (λ t f g h k. runs_framed z ws stores t f g h k o)
      where
        by : Dec (w ≡ 0)
            → ((t : State) → Entry F t → t.pc % 4 ≡ 0 → t.target ≡ none → instructions ws ≡ lowering F ∷ stores → Holds code t.pc ws → Runs code ws t (Entered F vs (length ws) t))
            → Runs code (w ∷ ws) s (Entered F vs (suc (length ws)) s)
        by (yes n) rest =
            let t : State = proceed s s.reg s.freg s.mem in
            let l = proceed_line {p = s.reg 29} s {g = s.reg} {f = s.freg} {m = s.mem} whole slot refl in
            let r = rest t (record { eight = e.eight; room = e.room; word = e.word; four = e.four }) l.whole refl (sym (instructions-zero w ws n) ∙ q)
            (subst (λ (x : ℕ). Holds code x ws) (sym (follows_next s slot)) c.1) in
            runs_step (step_nop code s whole (c.0 ∙ n)) (record { last = r.last; ran = r.ran; holds = entered_later (length ws) s r.last slot r.holds })
        by (no n) rest =
            let x = sym (instructions_more w ws n) ∙ q in
            subst (λ (y : ℕ). Runs code (y ∷ ws) s (Entered F vs (suc (length ws)) s)) (sym (head-eq_of_cons-eq x))
            (runs_lowered z ws s e whole slot (subst (StoresOnce vs) (sym (tail-eq_of_cons-eq x)) o) (c.0 ∙ head-eq_of_cons-eq x, c.1))

    -- without a frame there are only 00000000 words, and no saves
    runs_frameless : F ≡ 0 → (ws : List ℕ) (s : State) → Entry F s → s.pc % 4 ≡ 0 → s.target ≡ none → ((w : ℕ) → Among w ws → w ≡ 0)
        → Holds code s.pc ws → Runs code ws s (Entered F vs (length ws) s)
    runs_frameless z ws s e whole slot h c =
        let p : ℕ = s.reg 29 - F in
        let same : s.reg 29 ≡ p = omega arith in
        let r = runs_stores code p (area d e refl) ws s (λ w i n. absurd (n (h w i))) (record { whole = whole; slot = slot; sp = same }) c in
        let o = r.holds in
        record {
          last = r.last;
          ran = r.ran;
          holds = record {
            at = o.at;
            slot = o.slot;
            sp = ap (λ (g : ℕ → ℕ). g 29) o.reg ∙ same;
            general = λ k _. ap (λ (g : ℕ → ℕ). g k) o.reg;
            floating = λ k. ap (λ (f : ℕ → ℕ). f k) o.freg;
            elsewhere = λ a _. o.elsewhere a (λ v i. absurd (all_among (λ _. ⊥) vs (no_saves (λ _. ⊥) 0 vs F z d.span) v i));
            saved = no_saves _ 0 vs F z d.span;
          };
        }

    pub runs_prologue : (ws : List ℕ) → IsPrologue F vs ws → (s : State) → Entry F s → s.pc % 4 ≡ 0 → s.target ≡ none → Holds code s.pc ws
        → Runs code ws s (Entered F vs (length ws) s)
    runs_prologue ws q s e whole slot c = by (ℕ_discrete F 0)
      where
        by : Dec (F ≡ 0) → Runs code ws s (Entered F vs (length ws) s)
        by (yes z) = runs_frameless z ws s e whole slot (q.frameless z) c
        by (no z) = let f = q.framed z in runs_framed z ws f.0 s e whole slot f.1 f.2 c

-- ---- what is left of the state

-- whether an address is that of a save word
save_word : (p a : ℕ) (vs : List Save) → ((v : Save) × Among v vs × (a ≡ p + v.offset)) ⊎ All (λ v. a ≡ p + v.offset → ⊥) vs
save_word p a [] = inr tt
save_word p a (u ∷ us) = by (ℕ_discrete a (p + u.offset)) (save_word p a us)
  where
    by : Dec (a ≡ p + u.offset) → ((v : Save) × Among v us × (a ≡ p + v.offset)) ⊎ All (λ v. a ≡ p + v.offset → ⊥) us
        → ((v : Save) × Among v (u ∷ us) × (a ≡ p + v.offset)) ⊎ All (λ v. a ≡ p + v.offset → ⊥) (u ∷ us)
    by (yes e) h = inl (u, inl refl, e)
    by (no n) (inl h) = inl (h.0, inr h.1, h.2)
    by (no n) (inr h) = inr (n, h)

-- what enters the frame leaves this of it
module _ (F : ℕ) (vs : List Save) (s : State) where
  entered_mem : (n m : ℕ) (t u : State) → Entered F vs n s t → Entered F vs m s u → (a : ℕ) → t.mem a ≡ u.mem a
  entered_mem n m t u e f a = by (save_word (t.reg 29) a vs)
    where
      same : t.reg 29 ≡ u.reg 29
      same = e.sp ∙ sym f.sp

      by : ((v : Save) × Among v vs × (a ≡ t.reg 29 + v.offset)) ⊎ All (λ v. a ≡ t.reg 29 + v.offset → ⊥) vs → t.mem a ≡ u.mem a
      by (inl h) =
          let v : Save = h.0 in
          ap t.mem h.2 ∙ all_among (λ v. t.mem (t.reg 29 + v.offset) ≡ contents s v) vs e.saved v h.1
          ∙ sym (all_among (λ v. u.mem (u.reg 29 + v.offset) ≡ contents s v) vs f.saved v h.1) ∙ ap (λ (x : ℕ). u.mem (x + v.offset)) (sym same) ∙ ap u.mem (sym h.2)
      by (inr h) = e.elsewhere a h ∙ sym (f.elsewhere a (subst (λ (x : ℕ). All (λ v. a ≡ x + v.offset → ⊥) vs) same h))

  pub entered_same : (n m : ℕ) (t u : State) → Entered F vs n s t → Entered F vs m s u → SameExceptPc t u
  entered_same n m t u e f = record {
    reg = fun_ext (λ k. register k (ℕ_discrete k 29));
    freg = fun_ext (λ k. e.floating k ∙ sym (f.floating k));
    mem = fun_ext (entered_mem n m t u e f);
    target = e.slot ∙ sym f.slot;
  }
    where
      register : (k : ℕ) → Dec (k ≡ 29) → t.reg k ≡ u.reg k
      register k (yes q) = ap t.reg q ∙ e.sp ∙ sym f.sp ∙ ap u.reg (sym q)
      register k (no q) = e.general k q ∙ sym (f.general k q)
