-- `is_promoted` meets its contract.
use mathlib.Core.Path.{ap, ◌∙◌}
use mir.Syntax.{w32}
use mir.Val.{bytes}
use Rattle.words.specs.Words.{bytes_of, promote, to_word}
use Rattle.words.proofs.Promotion.{promoted_test}
use Rattle.words.proofs.is_promoted.Goals as goal

pub returns : goal.returns
returns g c =
    let w = g.T.Narrow.width in
    promoted_test w w32 c.args.signed c.args.w c.promote.result g.met.T.Narrow.narrower c.ranges.w.fits c.promote.type_inv
    (c.promote.ensures ∙ ap (λ x. promote (to_word c.args.signed (bytes w)) (bytes_of (bytes w) x)) c.last_of.ensures)
