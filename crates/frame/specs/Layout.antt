-- What is answered about a frame, in the papers' numbers.
use Rattle.std.specs.Prelude.{Bool, false, ℕ, is_some, unwrap_or, Result, Ok, Err}
use Rattle.answers.specs.declared.Cause.{Cause}
use Rattle.answers.specs.Numbers.{number}
use Rattle.frame.specs.declared.Frame.{Frame}

-- A refusal and its place, then 0 for every number and no for `$28`; or 0, 0 and what the frame is. Offsets are from `$sp`.
pub record Layout : Type 0 where
  pub refusal : ℕ
  pub place : ℕ
  -- F, the bytes of the frame
  pub frame : ℕ
  -- B, the bytes of the argument build area
  pub build : ℕ
  -- where the floating save area starts
  pub floating : ℕ
  -- where the general save area starts
  pub general : ℕ
  -- where the locals start
  pub locals : ℕ
  -- whether `$28`, the global pointer, is saved
  pub gp_saved : Bool
  -- the offset of its save word, which may be 0 too; 0 if it is not saved
  pub gp : ℕ

-- The code's answer in these numbers.
abbrev pub layout_in_numbers : Result Frame Cause → Layout
layout_in_numbers (Err c) = record {
  refusal = number c;
  place = 0;
  frame = 0;
  build = 0;
  floating = 0;
  general = 0;
  locals = 0;
  gp_saved = false;
  gp = 0;
}
layout_in_numbers (Ok f) = record {
  refusal = 0;
  place = 0;
  frame = f.frame;
  build = f.build;
  floating = f.floating;
  general = f.general;
  locals = f.locals;
  gp_saved = is_some f.gp;
  gp = unwrap_or f.gp 0;
}
