-- `o32_load::get_body` meets its contract, by the argument's register and by whether it became a word.
use mathlib.Core.Path.{ap, ap₂, ◌∙◌}
use mathlib.Core.List.{map}
use Prim.Native.Nat.{ℕ}
use native.Mathlib.Omega.{arith}
use lib.ListN.{take, drop}
use Rattle.places.specs.Places.{gather, run}
use Rattle.o32.specs.O32.{carrier}
use Rattle.o32_load.proofs.Bodies.{word-body, plain_body}
use Rattle.o32_load.proofs.get_body.Goals as goal

pub returns-then-size-width : goal.returns-then-size-width
returns-then-size-width c =
    let img = c.args.image.now in
    rw (word-body c.args.place img c.requires.fit _ _ c.position.ensures c.width_of-width.ensures (omega (arith, c.requires.body_length)) c.if-place-ne0.false)
    (c.copy.ensures ∙ ap₂ (λ (n o : ℕ). take n (drop o img)) (omega (arith, c.requires.body_length)) (omega (arith, c.requires.body_length)))

pub returns : goal.returns
returns c =
    rw (plain_body c.args.place c.args.image.now c.requires.fit c.if-place-ne0.false (omega (arith, c.requires.body_length)))
    (c.get_plain.ensures ∙ ap (λ (n : ℕ). gather c.args.image.now (map carrier (run c.args.place.offset n))) c.requires.body_length)
