-- The saves of an accepted request are sound: registers and words that the code can take, rising, inside the frame.
-- Assumes nothing.
use mathlib.Core.Path.{◌≡◌, subst}
use mathlib.Core.Bool.{true≢false}
use mathlib.Core.List.{List}
use Prim.Native.Nat.{ℕ, ◌+◌, ◌*◌, ◌%◌, ◌<◌}
use native.Mathlib.Omega.{arith}
use lib.Dec.{T}
use Rattle.frame.specs.Masks.{count_below}
use Rattle.frame.specs.Frame.{savable_registers, build_of, general_at, locals_at, frame_of}
use Rattle.frame.specs.Words.{Save, pair_at, register_at, pairs_of, registers_of, saves_of}
use Rattle.frame.specs.declared.Request.{Request}
use Rattle.frame.proofs.Savable.{lists, names_listed}
use Rattle.frame.proofs.Accepted.{Accepted, build_le, frame_le}
use Rattle.frame.proofs.Saves.{All, all_append, span_within, span-append, Fit, Sound}
use Rattle.frame.proofs.Collect.{collect-all, collect-span}

pair_fit : (start m k : ℕ) → k < 6 → start % 4 ≡ 0 → All Fit (pair_at start m k)
pair_fit start m k h w = (
  record { number = omega arith; real = omega arith; keeps = λ q. absurd (true≢false q); whole = omega arith },
  (record { number = omega arith; real = omega arith; keeps = λ q. absurd (true≢false q); whole = omega arith }, tt),
)

-- neither `$0` nor `$sp` is listed
register_fit : (start m k : ℕ) → k < 32 → start % 4 ≡ 0 → T (lists savable_registers k) → All Fit (register_at start m k)
register_fit start m k h w t =
    let other : (j : ℕ) → (T (lists savable_registers j) → ⊥) → k ≡ j → ⊥ = λ j n q. n (subst (λ (i : ℕ). T (lists savable_registers i)) q t) in
    (record { number = h; real = omega (arith, other 0 (λ x. x)); keeps = λ _ q. other 29 (λ x. x) q; whole = omega arith }, tt)

pub sound : {r : Request} → Accepted r → Sound (frame_of r) (saves_of r)
unfolding saves_of frame_of locals_at general_at
sound {r} a =
    let b = build_le r.leaf r.outgoing a.outgoing in
    let pairs : ℕ → List Save = pair_at (build_of r) r.pairs in
    let registers : ℕ → List Save = register_at (general_at r) r.general in
    record {
      eight = omega arith;
      small = omega (arith, frame_le a);
      fit =
          all_append Fit (pairs_of r) (registers_of r)
          (collect-all Fit pairs r.pairs 6 (λ j h e. pair_fit (build_of r) r.pairs j h (omega (arith, b.1))))
          (collect-all Fit registers r.general 32
          (λ j h e. register_fit (general_at r) r.general j h (omega (arith, b.1)) (names_listed r.general a.masks.general j h e)));
      span =
          span_within 0 (build_of r) (saves_of r) (general_at r + 4 * count_below r.general 32) (frame_of r) (omega arith) (omega arith)
          (span-append (build_of r) (pairs_of r) (general_at r) (registers_of r) _
          (collect-span pairs 8 r.pairs (build_of r) 6 (λ j. (omega arith, (omega arith, omega arith))))
          (collect-span registers 4 r.general (general_at r) 32 (λ j. (omega arith, omega arith))));
    }
