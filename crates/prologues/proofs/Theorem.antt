-- The check that the definitions state checks prologues, and every function that does answers the same.
-- Assumes nothing.
use mathlib.Core.Path.{◌≡◌, refl, sym, ap, ◌∙◌, subst}
use mathlib.Core.Logic.{inl, inr}
use mathlib.Core.List.{List}
use mathlib.Core.Bool.{false}
use Prim.Native.Nat.{ℕ, ◌<◌}
use native.Mathlib.Omega.{arith}
use native.Mathlib.Decide.{ℕ_discrete}
use Rattle.device.specs.declared.Device.{Device}
use Rattle.words.specs.Words.{bytes_of_words}
use Rattle.frame.specs.declared.Request.{Request}
use Rattle.frame.specs.Frame.{refusal_of, frame_of}
use Rattle.frame.specs.Words.{Save, saves_of, prologue_for, prologue_words, epilogue_words}
use Rattle.frame.specs.Keeping.{words_in, Keeps}
use Rattle.frame.proofs.Accepted.{accepted}
use Rattle.frame.proofs.Saves.{Sound}
use Rattle.frame.proofs.Sound.{sound}
use Rattle.frame.proofs.Prologue.{no_saves}
use Rattle.frame.proofs.Theorem.{Enters, prologue_enters, enters_keeps}
use Rattle.frame.proofs.WordsIn.{words_in_lem, prologue_small, length_bytes_of_words}
use Rattle.prologues.specs.Verdict.{Verdict}
use Rattle.prologues.specs.Checking.{verdict_on, has_wrong_length, refused_with, judged, checked}
use Rattle.prologues.specs.Prologues.{Among, IsPrologue, Names, LeavesAsOurs, WrongLength, Checks}
use Rattle.prologues.proofs.Answers.{says_length, checked_refused, checked-length, checked-judged}
use Rattle.prologues.proofs.Counting.{all_among}
use Rattle.prologues.proofs.Tests.{Says}
use Rattle.prologues.proofs.Verdicts.{names}
use Rattle.prologues.proofs.Entering.{fits, runs_prologue, entered_same}
use Rattle.prologues.proofs.Ours.{ours_prologue, ours_short}

-- ---- the verdict

module _ (d : Device) (r : Request) (ok : refusal_of d r ≡ 0) where
  saves_sound : Sound (frame_of r) (saves_of r)
  saves_sound = sound (accepted d r ok)

  numbered : (v : Save) → Among v (saves_of r) → (0 < v.number) × (v.number < 32)
  numbered v i = let f = fits (frame_of r) (saves_of r) saves_sound v i in (f.real, f.number)

  framed_saves : (v : Save) → Among v (saves_of r) → frame_of r ≡ 0 → ⊥
  framed_saves v i z = all_among (λ _. ⊥) (saves_of r) (no_saves (λ _. ⊥) 0 (saves_of r) (frame_of r) z saves_sound.span) v i

  pub verdict-names : (ws : List ℕ) → Names (frame_of r) (saves_of r) ws (verdict_on (frame_of r) (saves_of r) ws)
  verdict-names ws = names (frame_of r) (saves_of r) ws numbered framed_saves

  -- ---- the machine

  prologue-does_enter : (code : List ℕ) → IsPrologue (frame_of r) (saves_of r) (words_in code) → Enters r code
  prologue-does_enter bytes p code s e c = runs_prologue (frame_of r) (saves_of r) saves_sound code (words_in bytes) p s e c.whole c.slot c.words

  own_words : words_in (bytes_of_words (prologue_words r)) ≡ prologue_for (frame_of r) (saves_of r)
  unfolding prologue_words
  own_words = words_in_lem (prologue_for (frame_of r) (saves_of r)) (prologue_small (frame_of r) (saves_of r) saves_sound)

-- what is accepted is no refusal, and a prologue
module _ (d : Device) (r : Request) (code : List ℕ) (e : checked d r code ≡ judged 0) where
  refusal_is : (v : Verdict) → checked d r code ≡ v → v.refusal ≡ 0
  refusal_is v q = ap (λ (x : Verdict). x.refusal) (sym q ∙ e)

  pub taken : (refusal_of d r ≡ 0) × IsPrologue (frame_of r) (saves_of r) (words_in code)
  taken = by (ℕ_discrete (refusal_of d r) 0) (says_length code)
    where
      by : Dec (refusal_of d r ≡ 0) → Says (has_wrong_length code) (WrongLength code) (WrongLength code → ⊥)
          → (refusal_of d r ≡ 0) × IsPrologue (frame_of r) (saves_of r) (words_in code)
      by (no n) w = absurd (n (refusal_is _ (checked_refused d r code n)))
      by (yes ok) (inl w) = absurd (omega (arith, refusal_is _ (checked-length d r code ok w.0)))
      by (yes ok) (inr w) =
          (ok, (verdict-names d r ok (words_in code)).accepted.0 (ap (λ (x : Verdict). x.verdict) (sym (checked-judged d r code ok w.0) ∙ e)))

  enters : Enters r code
  enters = prologue-does_enter d r taken.0 code taken.1

  leaves : LeavesAsOurs r code (bytes_of_words (prologue_words r))
  leaves theirs ours s entry c c' =
      let t = enters theirs s entry c in
      let u = prologue_enters d r taken.0 ours s entry c' in
      record {
        last = t.last;
        ran = t.ran;
        holds = record { last = u.last; ran = u.ran; holds = entered_same (frame_of r) (saves_of r) s _ _ t.last u.last t.holds u.holds };
      }

  keeps : Keeps r code (bytes_of_words (epilogue_words r))
  keeps = enters_keeps d r taken.0 code enters

-- ---- the theorem

pub checks : Checks checked
checks = record {
  refused = checked_refused;
  wrong_length = λ d r code ok h. by_length d r code ok h (says_length code);
  verdict = λ d r code ok h. judging d r code ok h (says_length code);
  leaves = leaves;
  keeps = keeps;
  ours = own;
}
  where
    by_length : (d : Device) (r : Request) (code : List ℕ) → refusal_of d r ≡ 0 → WrongLength code
        → Says (has_wrong_length code) (WrongLength code) (WrongLength code → ⊥) → checked d r code ≡ refused_with 21
    by_length d r code ok h (inl w) = checked-length d r code ok w.0
    by_length d r code ok h (inr w) = absurd (w.1 h)

    judging : (d : Device) (r : Request) (code : List ℕ) → refusal_of d r ≡ 0 → (WrongLength code → ⊥)
        → Says (has_wrong_length code) (WrongLength code) (WrongLength code → ⊥)
        → (n : ℕ) × (checked d r code ≡ judged n) × Names (frame_of r) (saves_of r) (words_in code) n
    judging d r code ok h (inl w) = absurd (h w.1)
    judging d r code ok h (inr w) = (verdict_on (frame_of r) (saves_of r) (words_in code), checked-judged d r code ok w.0, verdict-names d r ok (words_in code))

    own : (d : Device) (r : Request) → refusal_of d r ≡ 0 → checked d r (bytes_of_words (prologue_words r)) ≡ judged 0
    own d r ok =
        let ours : List ℕ = bytes_of_words (prologue_words r) in
        checked-judged d r ours ok (fine (says_length ours))
        ∙ ap judged ((verdict-names d r ok (words_in ours)).accepted.1 (subst (IsPrologue (frame_of r) (saves_of r)) (sym (own_words d r ok)) (ours_prologue (frame_of r) (saves_of r) (saves_sound d r ok))))
      where
        fine : Says (has_wrong_length (bytes_of_words (prologue_words r))) (WrongLength (bytes_of_words (prologue_words r))) (WrongLength (bytes_of_words (prologue_words r)) → ⊥)
            → has_wrong_length (bytes_of_words (prologue_words r)) ≡ false
        fine (inr w) = w.0
        fine (inl w) = absurd (not-wrong w.1)
          where
            not-wrong : WrongLength (bytes_of_words (prologue_words r)) → ⊥
            not-wrong (inl n) = n (omega (arith, length_bytes_of_words (prologue_words r)))
            not-wrong (inr h) = omega (arith, h, ours_short d r ok)

-- ---- it is the only one

names_one : (F : ℕ) (saves : List Save) (ws : List ℕ) (m n : ℕ) → Names F saves ws m → Names F saves ws n → m ≡ n
names_one F saves ws m n a b = by (ℕ_discrete m 0) (ℕ_discrete m 255)
  where
    by : Dec (m ≡ 0) → Dec (m ≡ 255) → m ≡ n
    by (yes z) e = z ∙ sym (b.accepted.1 (a.accepted.0 z))
    by (no z) (yes e) = e ∙ sym (b.foreign.1 (a.foreign.0 e))
    by (no z) (no e) =
        let low : 0 < m = omega arith in
        let high : m < 255 = omega (arith, a.most) in
        sym ((b.register m low high).1 ((a.register m low high).0 refl))

pub determined : (f g : Device → Request → List ℕ → Verdict) → Checks f → Checks g → (d : Device) (r : Request) (code : List ℕ) → f d r code ≡ g d r code
determined f g a b d r code = by (ℕ_discrete (refusal_of d r) 0) (says_length code)
  where
    by : Dec (refusal_of d r ≡ 0) → Says (has_wrong_length code) (WrongLength code) (WrongLength code → ⊥) → f d r code ≡ g d r code
    by (no n) w = a.refused d r code n ∙ sym (b.refused d r code n)
    by (yes ok) (inl w) = a.wrong_length d r code ok w.1 ∙ sym (b.wrong_length d r code ok w.1)
    by (yes ok) (inr w) =
        let x = a.verdict d r code ok w.1 in
        let y = b.verdict d r code ok w.1 in
        x.1 ∙ ap judged (names_one (frame_of r) (saves_of r) (words_in code) x.0 y.0 x.2 y.2) ∙ sym y.1
