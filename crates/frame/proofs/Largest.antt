-- The largest frame.
-- Assumes nothing.
use mathlib.Core.Path.{refl}
use Prim.Native.Nat.{◌+◌, ◌≤◌}
use native.Mathlib.Omega.{arith}
use Rattle.frame.specs.Layout.{Layout}
use Rattle.frame.specs.Masks.{count_below}
use Rattle.frame.specs.Frame.{frame_most, refusal_of, general_at, locals_at, frame_of, gp_at, layout_of}
use Rattle.frame.specs.Largest.{area_most, Largest}
use Rattle.frame.proofs.Accepted.{accepted, registers_le, frame_le, area-le, layout_cases}

pub largest : Largest
unfolding layout_of refusal_of frame_of locals_at general_at gp_at count_below
largest = record {
  registers = λ d r e. registers_le (accepted d r e);
  area = λ d r. layout_cases d r (λ (y : Layout). y.locals ≤ y.general + area_most) (λ e. area-le (accepted d r e)) (λ n. omega arith);
  frame = λ d r. layout_cases d r (λ (y : Layout). y.frame ≤ frame_most) (λ e. frame_le (accepted d r e)) (λ n. omega arith);
  all = refl;
  reached = refl;
}
