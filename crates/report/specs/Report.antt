-- What the program prints for a list ("Bench cases").
use Rattle.std.specs.Prelude.{◌≡◌, List, ℕ, take}
use Rattle.answers.specs.Outcomes.{Outcome, done, refused}
use Rattle.carried.specs.Convention.{write}
use Rattle.device.specs.declared.Device.TheVariants.{Fpu}
use Rattle.o32.specs.O32.{O32}
use Rattle.text.specs.Text.{image_text, refusal_text}

-- "It prints each image word as eight uppercase hex digits and a newline, no header; on refusal" the refusal's line.
abbrev pub text_of : Outcome → List ℕ
text_of (done image) = image_text image
text_of (refused number place argument) = refusal_text number place argument

-- The text of a list, for the device with a floating-point unit. (No buffer of a caller is too short here, so 7 is no answer.)
abbrev pub report_text : List ℕ → List ℕ
report_text list = text_of (write (O32 Fpu) list)

-- "The program reads at most 2,048 bytes",
abbrev pub read_limit : ℕ
read_limit = 2048

-- "a longer list is refused as its first 2,048 bytes are". (No accepted list is so long.)
abbrev pub ReadLimit : Type 0
ReadLimit = (list : List ℕ) → report_text (take read_limit list) ≡ report_text list
