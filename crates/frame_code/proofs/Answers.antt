-- The answers by case: refused, too short, done; and what a frame says.
-- Assumes nothing.
use mathlib.Core.Path.{◌≡◌, refl, sym, ap, ◌∙◌}
use mathlib.Core.List.{List, ◌++◌}
use mathlib.Core.Bool.{Bool, true, false, cond}
use Prim.Native.Nat.{ℕ, ◌<◌, ◌≤◌}
use native.Mathlib.Omega.{arith}
use native.Mathlib.Nat.{zero-add}
use lib.ListN.{length, drop}
use lib.Seq.{sets, sets-eq}
use lib.Dec.{eqb, ltb}
use borrow.Author.Tests.{eqb-true, eqb-false, eq-eqb, ne_eqb, lt-ltb, le-ltb}
use Rattle.device.specs.declared.Device.{Device}
use Rattle.std.specs.Prelude.{Result, Ok, Err, IsErrAnd}
use Rattle.answers.specs.declared.Cause.{Cause}
use Rattle.answers.specs.declared.Refusal.{Refusal}
use Rattle.answers.specs.Numbers.{number}
use Rattle.answers.proofs.Numbers.{number_positive}
use Rattle.answers.specs.Outcomes.{Outcome, done, refused, answer_of, buffer_of, in_numbers}
use Rattle.frame.specs.declared.Request.{Request}
use Rattle.frame.specs.declared.Frame.{Frame}
use Rattle.frame.specs.Layout.{Layout, layout_in_numbers}
use Rattle.frame.specs.Frame.{refusal_of, layout_of}
use Rattle.words.specs.Words.{bytes_of_words}
use Rattle.frame.proofs.Accepted.{accepted_savable, accepted, general_le, frame_le, layout_accepted, layout_cases}
use Rattle.frame_code.specs.Areas.{Areas}
use Rattle.frame_code.specs.Code.{code_into}

module _ (d : Device) (r : Request) where
  refusal_is : {y : Layout} → y ≡ layout_of d r → y.refusal ≡ refusal_of d r
  refusal_is l = ap (λ (x : Layout). x.refusal) l ∙ layout_cases d r (λ (x : Layout). x.refusal ≡ refusal_of d r) sym (λ n. refl)

  -- where a frame is answered
  module _ (f : Frame) (l : layout_in_numbers (Ok f) ≡ layout_of d r) where
    pub answered_accepted : refusal_of d r ≡ 0
    answered_accepted = sym (refusal_is l)

    pub areas : Areas r f
    areas =
        let e = answered_accepted in
        let a = accepted d r e in
        let q = l ∙ layout_accepted d r e in
        let p = ap (λ (x : Layout). x.floating) q in
        let g = ap (λ (x : Layout). x.general) q in
        let s = ap (λ (x : Layout). x.frame) q in
        record {
          masks = accepted_savable d r e;
          frame = s;
          frame_le = omega (arith, frame_le a);
          floating = p;
          general = g;
          floating_le = omega arith;
          general_le = omega (arith, general_le a);
        }

  -- where a cause is
  module _ (c : Cause) (l : layout_in_numbers (Err c) ≡ layout_of d r) where
    pub cause-is : number c ≡ refusal_of d r
    cause-is = refusal_is l

    pub cause-refused : refusal_of d r ≡ 0 → ⊥
    cause-refused z = omega (arith, number_positive c, cause-is, z)

    pub code-refused : (ws : List ℕ) (room : ℕ) → code_into d r ws room ≡ refused (number c) 0 0
    unfolding code_into
    code-refused ws room = rw cause-is (simp (ne_eqb (refusal_of d r) 0 cause-refused))

    -- and is passed on, by `?`
    pub code-passed : (x : Result ℕ Refusal) → IsErrAnd x (λ e. e ≡ record { cause = c; place = 0; argument = 0 })
        → (ws : List ℕ) (room : ℕ) → in_numbers x ≡ answer_of (code_into d r ws room)
    code-passed (Err e) h ws room = rw (code-refused ws room, h) refl
    code-passed (Ok n) h ws room = absurd h

-- what holds of each of the three answers holds of the one that is given
pub code_cases : (d : Device) (r : Request) (ws : List ℕ) (room : ℕ) (P : Outcome → Type 0) → (refusal_of d r ≡ 0 → P (done (bytes_of_words ws)))
    → P (refused 13 0 0) → ((refusal_of d r ≡ 0 → ⊥) → P (refused (refusal_of d r) 0 0)) → P (code_into d r ws room)
unfolding code_into
code_cases d r ws room P whole short unfit = by (eqb (refusal_of d r) 0) (ltb room (length (bytes_of_words ws))) refl
  where
    by : (accepted less : Bool) → eqb (refusal_of d r) 0 ≡ accepted
        → P (cond accepted (cond less (refused 13 0 0) (done (bytes_of_words ws))) (refused (refusal_of d r) 0 0))
    by true true e = short
    by true false e = whole (eqb-true (refusal_of d r) 0 e)
    by false less e = unfit (eqb-false (refusal_of d r) 0 e)

module _ (d : Device) (r : Request) (ws : List ℕ) (room : ℕ) (e : refusal_of d r ≡ 0) where
  pub code_short : room < length (bytes_of_words ws) → code_into d r ws room ≡ refused 13 0 0
  unfolding code_into
  code_short h = simp (eq-eqb (refusal_of d r) 0 e, lt-ltb _ _ h)

  code_done : length (bytes_of_words ws) ≤ room → code_into d r ws room ≡ done (bytes_of_words ws)
  unfolding code_into
  code_done h = simp (eq-eqb (refusal_of d r) 0 e, le-ltb _ _ h)

-- the words' bytes, put at the start of a buffer that has room for them
pub done_written : (d : Device) (r : Request) (ws buf : List ℕ) {n : ℕ} {out : List ℕ} → refusal_of d r ≡ 0 → n ≡ length (bytes_of_words ws) → n ≤ length buf
    → out ≡ sets buf 0 (bytes_of_words ws)
    → (record { refusal = 0; place = 0; argument = 0; length = n } ≡ answer_of (code_into d r ws (length buf))) × (out ≡ buffer_of (code_into d r ws (length buf)) buf)
done_written d r ws buf e q h s =
    let fits : length (bytes_of_words ws) ≤ length buf = omega arith in
    rw (code_done d r ws (length buf) e fits, q)
    (refl, s ∙ sets-eq (bytes_of_words ws) buf 0 (omega arith) ∙ ap (λ (k : ℕ). bytes_of_words ws ++ drop k buf) (zero-add (length (bytes_of_words ws))))
