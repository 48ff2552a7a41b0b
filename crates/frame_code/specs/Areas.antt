-- What the code knows of a frame where it writes instructions on its save words.
use Rattle.std.specs.Prelude.{◌≡◌, false, ◌≤◌}
use Rattle.frame.specs.declared.Request.{Request}
use Rattle.frame.specs.declared.Frame.{Frame}
use Rattle.frame.specs.Frame.{names_unsavable, floating_at, general_at, frame_of, frame_most}
use Rattle.frame_words.specs.Limits.{start_most}

-- The masks are not refused 9, the frame is the request's, and says where its two save areas start, within reach of an instruction.
pub record Areas (r : Request) (f : Frame) : Type 0 where
  pub masks : names_unsavable r ≡ false
  pub frame : f.frame ≡ frame_of r
  pub frame_le : f.frame ≤ frame_most
  pub floating : f.floating ≡ floating_at r
  pub general : f.general ≡ general_at r
  pub floating_le : f.floating ≤ start_most
  pub general_le : f.general ≤ start_most
