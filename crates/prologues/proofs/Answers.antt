-- What is answered, by case: a refused request, a wrong length, another word, the first register or 0.
-- Assumes nothing.
use mathlib.Core.Path.{◌≡◌}
use mathlib.Core.Logic.{inl, inr}
use mathlib.Core.List.{List, map}
use mathlib.Core.Bool.{true, false}
use Prim.Native.Nat.{ℕ, ◌%◌, ◌<◌}
use native.Mathlib.Omega.{arith}
use native.Mathlib.Decide.{ℕ_discrete, dec_lt}
use lib.Dec.{ltb}
use lib.ListN.{length}
use borrow.Author.Tests.{eq-eqb, ne_eqb, lt-ltb, le-ltb}
use Rattle.device.specs.declared.Device.{Device}
use Rattle.frame.specs.declared.Request.{Request}
use Rattle.frame.specs.Frame.{refusal_of, frame_of}
use Rattle.frame.specs.Words.{Save, saves_of, store_word}
use Rattle.frame.specs.Keeping.{words_in}
use Rattle.prologues.specs.Checking.{instructions, is_opened, first_wrong, verdict_on, code_most, has_wrong_length, refused_with, judged, checked}
use Rattle.prologues.specs.Prologues.{WrongLength}
use Rattle.prologues.proofs.Tests.{Says}

-- ---- the length

module _ (code : List ℕ) where
  pub length-uneven : (length code % 4 ≡ 0 → ⊥) → has_wrong_length code ≡ true
  length-uneven n = simp (ne_eqb (length code % 4) 0 n)

  module _ (e : length code % 4 ≡ 0) where
    pub length_above : ltb code_most (length code) ≡ true → has_wrong_length code ≡ true
    length_above h = simp (eq-eqb (length code % 4) 0 e, h)

    pub length_right : ltb code_most (length code) ≡ false → has_wrong_length code ≡ false
    length_right h = simp (eq-eqb (length code % 4) 0 e, h)

  pub says_length : Says (has_wrong_length code) (WrongLength code) (WrongLength code → ⊥)
  says_length = by (ℕ_discrete (length code % 4) 0) (dec_lt code_most (length code))
    where
      by : Dec (length code % 4 ≡ 0) → Dec (code_most < length code) → Says (has_wrong_length code) (WrongLength code) (WrongLength code → ⊥)
      by (no n) d = inl (length-uneven n, inl n)
      by (yes z) (yes h) = inl (length_above z (lt-ltb code_most (length code) h), inr h)
      by (yes z) (no h) = inr (length_right z (le-ltb code_most (length code) (omega arith)), neither)
        where
          neither : WrongLength code → ⊥
          neither (inl n) = n z
          neither (inr k) = h k

-- ---- the verdict

module _ (F : ℕ) (saves : List Save) (ws : List ℕ) where
  pub verdict_other : is_opened F (map store_word saves) (instructions ws) ≡ false → verdict_on F saves ws ≡ 255
  unfolding verdict_on
  verdict_other e = simp e

  pub verdict_first : is_opened F (map store_word saves) (instructions ws) ≡ true → verdict_on F saves ws ≡ first_wrong saves ws
  unfolding verdict_on
  verdict_first e = simp e

-- ---- the answer

module _ (d : Device) (r : Request) (code : List ℕ) where
  pub checked_refused : (refusal_of d r ≡ 0 → ⊥) → checked d r code ≡ refused_with (refusal_of d r)
  unfolding checked
  checked_refused n = simp (ne_eqb (refusal_of d r) 0 n)

  module _ (ok : refusal_of d r ≡ 0) where
    pub checked-length : has_wrong_length code ≡ true → checked d r code ≡ refused_with 21
    unfolding checked
    checked-length e = simp (eq-eqb (refusal_of d r) 0 ok, e)

    pub checked-judged : has_wrong_length code ≡ false → checked d r code ≡ judged (verdict_on (frame_of r) (saves_of r) (words_in code))
    unfolding checked
    checked-judged e = simp (eq-eqb (refusal_of d r) 0 ok, e)
