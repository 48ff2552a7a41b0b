-- The bytes of a request's prologue and epilogue keep what is demanded of them, where some device accepts it.
-- Assumes nothing.
use mathlib.Core.Path.{◌≡◌, refl, sym, ap, ◌∙◌, subst}
use mathlib.Core.Bool.{Bool, true, false, true≢false}
use mathlib.Core.Logic.{inl, inr}
use mathlib.Core.List.{List}
use Prim.Native.Nat.{ℕ, ◌+◌, ◌^◌, ◌<◌}
use native.Mathlib.Omega.{arith}
use native.Mathlib.Nat.{zero-div}
use lib.ListN.{length}
use Rattle.device.specs.declared.Device.{Device}
use Rattle.device.specs.declared.Device.TheVariants.{NoFpu}
use Rattle.machine.specs.Machine.{State, run, Holds, Runs}
use Rattle.frame.specs.Masks.{names}
use Rattle.frame.specs.Frame.{refusal_of, floating_at, general_at, frame_of}
use Rattle.frame.specs.Words.{Save, pair_at, register_at, pairs_of, registers_of, saves_of, prologue_for, epilogue_for, prologue_words, epilogue_words}
use Rattle.words.specs.Words.{bytes_of_words}
use Rattle.frame.specs.Keeping.{words_in, Ready, Entry, SaveWord, register, even, odd, Prologued, Body, Returned, Keeps}
use Rattle.frame.specs.declared.Request.{Request}
use Rattle.frame.proofs.Accepted.{no_pairs, accepted}
use Rattle.frame.proofs.Saves.{All, all_both, all_append, all_split, Sound}
use Rattle.frame.proofs.Prologue.{Entered, prologue}
use Rattle.frame.proofs.Epilogue.{Left, Returns, epilogue}
use Rattle.frame.proofs.Collect.{collect-all, collect-at}
use Rattle.frame.proofs.Sound.{sound}
use Rattle.frame.proofs.WordsIn.{words_in_lem, prologue_small, epilogue_small}

-- what holds of all saves of a request holds of those of each named register
module _ (r : Request) (P : Save → Type 0) (a : All P (saves_of r)) where
  saves_split : All P (pairs_of r) × All P (registers_of r)
  unfolding saves_of
  saves_split = all_split P (pairs_of r) (registers_of r) a

  pub holds_of_pair : (k : ℕ) → k < 6 → names r.pairs k ≡ true → All P (pair_at (floating_at r) r.pairs k)
  holds_of_pair k = collect-at P (pair_at (floating_at r) r.pairs) r.pairs 6 k saves_split.0

  pub holds_of_register : (k : ℕ) → k < 32 → names r.general k ≡ true → All P (register_at (general_at r) r.general k)
  holds_of_register k = collect-at P (register_at (general_at r) r.general) r.general 32 k saves_split.1

-- what holds of every save word holds of all saves of a request
module _ (r : Request) (P : ℕ → Type 0) (h : (o : ℕ) → SaveWord r o → P o) where
  holds_of_saves : All (λ (v : Save). P v.offset) (saves_of r)
  unfolding saves_of
  holds_of_saves =
      all_append _ (pairs_of r) (registers_of r)
      (collect-all _ (pair_at (floating_at r) r.pairs) r.pairs 6 (λ k l n. (h _ (even k l n), (h _ (odd k l n), tt))))
      (collect-all _ (register_at (general_at r) r.general) r.general 32 (λ k l n. (h _ (register k l n), tt)))

prologued : (r : Request) (n : ℕ) (s t : State) → Entered (frame_of r) (saves_of r) n s t → Prologued r n s t
prologued r n s t e = record {
  at = e.at;
  slot = e.slot;
  sp = e.sp;
  general = e.general;
  floating = e.floating;
  elsewhere = λ a h. e.elsewhere a (holds_of_saves r (λ (o : ℕ). a ≡ t.reg 29 + o → ⊥) h);
  registers = λ k h n. (holds_of_register r _ e.saved k h n).0;
  even = λ k h n. (holds_of_pair r _ e.saved k h n).0;
  odd = λ k h n. (holds_of_pair r _ e.saved k h n).1.0;
}

returned : (r : Request) (s w : State) → Entry (frame_of r) s → Left (saves_of r) s w → Returned r s w
returned r s w e l = record {
  sp = l.sp;
  general = λ k h n. (holds_of_register r _ l.registers k h n).0;
  even = λ k h n. (holds_of_pair r _ l.registers k h n).0;
  odd = λ k h n. (holds_of_pair r _ l.registers k h n).1.0;
  at = l.at;
  slot = l.slot;
  whole = omega (arith, l.at, e.four);
}

return : (r : Request) (n : ℕ) (s t u : State) → Entered (frame_of r) (saves_of r) n s t → Body r t u → Returns (saves_of r) s u
return r n s t u e b = by (names r.general 31) refl
  where
    by : (x : Bool) → names r.general 31 ≡ x → Returns (saves_of r) s u
    by true n = inr (λ w a. (holds_of_register r _ a 31 (omega arith) n).0)
    by false n = inl (b.return n ∙ e.general 31 (λ q. omega arith))

-- what the words do, the bytes do that they make
runs_in_bytes : {P Q : State → Type 0} (code : ℕ → ℕ) (ws : List ℕ) (s : State) → words_in (bytes_of_words ws) ≡ ws → Ready code (bytes_of_words ws) s
    → (Holds code s.pc ws → Runs code ws s P) → ((t : State) → P t → Q t) → Runs code (words_in (bytes_of_words ws)) s Q
runs_in_bytes code ws s e c runs h =
    let r = runs (subst (Holds code s.pc) e c.words) in
    record { last = r.last; ran = ap (λ (l : List ℕ). run (length l) code s) e ∙ r.ran; holds = h r.last r.holds }

-- Bytes of code enter the frame of a request: they change only `$sp`, the program counter and the save words, and these hold the registers.
abbrev pub Enters : Request → List ℕ → Type 0
Enters r bytes =
    (code : ℕ → ℕ) (s : State) → Entry (frame_of r) s → Ready code bytes s
    → Runs code (words_in bytes) s (λ t. Entered (frame_of r) (saves_of r) (length (words_in bytes)) s t)

module _ (x : Device) (r : Request) (ok : refusal_of x r ≡ 0) where
  saves_sound : Sound (frame_of r) (saves_of r)
  saves_sound = sound (accepted x r ok)

  pub prologue_enters : Enters r (bytes_of_words (prologue_words r))
  unfolding prologue_words
  prologue_enters code s e c =
      let F : ℕ = frame_of r in
      let vs : List Save = saves_of r in
      let own : words_in (bytes_of_words (prologue_for F vs)) ≡ prologue_for F vs = words_in_lem (prologue_for F vs) (prologue_small F vs saves_sound) in
      runs_in_bytes code (prologue_for F vs) s own c (prologue code F vs s saves_sound e c.whole c.slot)
      (λ t p. subst (λ (n : ℕ). Entered F vs n s t) (sym (ap length own)) p)

  -- whatever enters the frame keeps what is demanded, with the request's epilogue
  pub enters_keeps : (bytes : List ℕ) → Enters r bytes → Keeps r bytes (bytes_of_words (epilogue_words r))
  unfolding epilogue_words
  enters_keeps bytes enters code s e c =
      let F : ℕ = frame_of r in
      let vs : List Save = saves_of r in
      let run = enters code s e c in
      let t : State = run.last in
      let p = run.holds in
      record {
        last = t;
        ran = run.ran;
        holds = (
          prologued r _ s t p,
          λ u b k. runs_in_bytes code (epilogue_for F vs) u (words_in_lem (epilogue_for F vs) (epilogue_small F vs saves_sound)) k
              (epilogue code (t.reg 29) F vs s u saves_sound e p.sp (record { whole = k.whole; slot = k.slot; sp = b.sp })
              (all_both vs (λ v x y. x ∙ y) (holds_of_saves r (λ (o : ℕ). u.mem (t.reg 29 + o) ≡ t.mem (t.reg 29 + o)) b.saves) p.saved) (return r _ s t u p b))
              (λ w l. returned r s w e l),
        );
      }

  pub frames : Keeps r (bytes_of_words (prologue_words r)) (bytes_of_words (epilogue_words r))
  frames = enters_keeps (bytes_of_words (prologue_words r)) prologue_enters

zero-names-none : (k : ℕ) → names 0 k ≡ false
zero-names-none k = rw (zero-div (2 ^ k))

-- Without a floating-point unit an accepted request names no pair (refusal 14), so its code has no floating instruction: all saves
-- are of general registers.
pub no_floats : (r : Request) → refusal_of NoFpu r ≡ 0 → All (λ (v : Save). v.float ≡ false) (saves_of r)
unfolding saves_of
no_floats r ok =
    all_append _ (pairs_of r) (registers_of r)
    (collect-all _ (pair_at (floating_at r) r.pairs) r.pairs 6
    (λ k l n. absurd (true≢false (sym n ∙ ap (λ (m : ℕ). names m k) (no_pairs r ok) ∙ zero-names-none k))))
    (collect-all _ (register_at (general_at r) r.general) r.general 32 (λ k l n. (refl, tt)))
