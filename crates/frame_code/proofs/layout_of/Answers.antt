-- `layout_of` meets its contract: nothing is added up before all is in its limits.
use Rattle.std.proofs.Common.{◌≡◌, refl, ℕ, Bool, true, false, cond, Option, Some, None, is_some, unwrap_or, Result, Ok, Err, IsErrAnd, arith}
use borrow.Author.Tests.{eq-eqb, ne_eqb}
use Rattle.device.specs.declared.Device.{Device}
use Rattle.answers.specs.declared.Cause.{Cause}
use Rattle.answers.specs.Numbers.{number}
use Rattle.frame.specs.declared.Request.{Request}
use Rattle.frame.specs.declared.Frame.{Frame}
use Rattle.frame.specs.Layout.{layout_in_numbers}
use Rattle.frame.specs.Frame.{refusal_of, general_at, locals_at, frame_of, saves_gp, offset_of_register, gp_at, layout_of}
use Rattle.frame.proofs.Accepted.{accepted}
use Rattle.answers.proofs.Numbers.{number_positive}
use Rattle.frame_code.proofs.layout_of.Goals as goal

refused-is : (d : Device) (r : Request) (c : Cause) (x : Result Frame Cause) → number c ≡ refusal_of d r → IsErrAnd x (λ e. e ≡ c)
    → layout_in_numbers x ≡ layout_of d r
unfolding layout_of
refused-is d r c (Err e) q h = rw h (simp (← q, ne_eqb (number c) 0 (λ z. omega (arith, number_positive c, z))))
refused-is d r c (Ok f) q h = absurd h

gp-is : (saved : Bool) (at : ℕ) {o : Option ℕ} → o ≡ cond saved (Some (cond saved at 0)) None → (is_some o ≡ saved) × (unwrap_or o 0 ≡ cond saved at 0)
gp-is true at e = rw e (refl, refl)
gp-is false at e = rw e (refl, refl)

pub returns-in_err-check : goal.returns-in_err-check
returns-in_err-check c = refused-is _ _ _ _ c.in_err-check.ensures c.from_residual.ensures.1

pub gp_offset-requires : goal.gp_offset-requires
unfolding general_at
gp_offset-requires c =
    let s = accepted _ _ c.in_ok-check.ensures in
    let b = c.build_area-build.ensures in
    (omega (arith, b, s.counts.pairs), omega (arith, s.build, s.counts.pairs, s.counts.few_pairs, b))

pub returns : goal.returns
unfolding layout_of frame_of locals_at general_at gp_at
returns c =
    let s = accepted _ _ c.in_ok-check.ensures in
    let gp = gp-is (saves_gp c.args.request) (offset_of_register c.args.request 28) c.gp_offset.ensures in
    simp (
      eq-eqb _ _ c.in_ok-check.ensures,
      ← s.counts.pairs,
      ← s.counts.general,
      c.round_up-2.ensures,
      c.round_up.ensures,
      c.build_area-build.ensures,
      gp.0,
      gp.1,
    )
