-- `promote` meets its contract: the bits of a signed number, or the number itself, are the promotion of its bytes.
use mathlib.Core.Path.{ap, ◌∙◌}
use mir.Syntax.{w32}
use mir.Val.{of_z}
use mir.Facts.{to_z-of_z}
use Rattle.words.specs.Words.{bytes_of}
use Rattle.words.proofs.Promotion.{promoted_signed, promoted_unsigned}
use Rattle.words.proofs.promote.Goals as goal

pub returns-then-signed : goal.returns-then-signed
returns-then-signed g c =
    let bits = c.cast_unsigned.ensures ∙ ap (of_z w32) (to_z-of_z {w = w32} (record { sfits = c.signed.type_inv }) ∙ c.signed.ensures.value) in
    rw c.if-signed.true (ap (bytes_of 4) bits ∙ promoted_signed g.T.Narrow.width w32 _ g.met.T.Narrow.narrower c.signed.ensures.in_width)

pub returns-else-signed : goal.returns-else-signed
returns-else-signed g c =
    rw c.if-signed.false (ap (bytes_of 4) c.unsigned.ensures.value ∙ promoted_unsigned g.T.Narrow.width w32 _ g.met.T.Narrow.narrower c.unsigned.ensures.in_width)
