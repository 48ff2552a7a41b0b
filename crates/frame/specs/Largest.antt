-- How large a frame and its general save area are.
use Rattle.std.specs.Prelude.{◌≡◌, true, false, ℕ, ◌+◌, ◌*◌, ◌≤◌}
use Rattle.device.specs.declared.Device.{Device}
use Rattle.device.specs.declared.Device.TheVariants.{Fpu}
use Rattle.frame.specs.declared.Request.{Request}
use Rattle.frame.specs.Masks.{count_below}
use Rattle.frame.specs.Frame.{savable, pairs_most, locals_most, outgoing_most, frame_most, refusal_of, layout_of}

-- A request of all that may be asked for.
abbrev pub all_requested : Request
all_requested = record { leaf = false; locals = locals_most; outgoing = outgoing_most; general = savable; pairs = pairs_most }

-- "The general area may be 44 bytes, rounded to 48".
abbrev pub registers_most : ℕ
registers_most = 44

abbrev pub area_most : ℕ
area_most = 48

-- No accepted request names more, and no layout that is answered has more: "F at most 17,504". One request has all of it.
pub record Largest : Type 0 where
  pub registers : (d : Device) (r : Request) → refusal_of d r ≡ 0 → 4 * count_below r.general 32 ≤ registers_most
  pub area : (d : Device) (r : Request) → (layout_of d r).locals ≤ (layout_of d r).general + area_most
  pub frame : (d : Device) (r : Request) → (layout_of d r).frame ≤ frame_most
  pub all : 4 * count_below all_requested.general 32 ≡ registers_most
  pub reached : layout_of Fpu all_requested
      ≡ record { refusal = 0; place = 0; frame = frame_most; build = 1024; floating = 1024; general = 1072; locals = 1072 + area_most; gp_saved = true; gp = 1104 }
