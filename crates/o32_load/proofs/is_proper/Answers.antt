-- `is_proper` meets its contract: a body that stays as it is is proper, and a word is tested.
use mathlib.Core.Path.{sym}
use native.Mathlib.Omega.{arith}
use Rattle.o32_laws.proofs.Fitting.{Worded, body_fits}
use Rattle.o32_load.proofs.Bodies.{signed_class, unsigned_class, other_class, plain_proper, word-proper}
use Rattle.o32_load.proofs.is_proper.Goals as goal
use Rattle.o32_load.proofs.is_proper.Goals.{in-Signed, in-Unsigned}

pub returns-in_default : goal.returns-in_default
returns-in_default c = sym (plain_proper c.args.place c.args.image.now c.requires (other_class c.args.place.kind c.in_default.not-Signed c.in_default.not-Unsigned))

pub returns-then-place-eq1 : goal.returns-then-place-eq1
returns-then-place-eq1 c =
    let w : Worded c.args.place.kind c.match-place.signed = elim c.match-place.branch [
      | in-Signed w ↦ rw w.signed-is (signed_class w.in-Signed.is)
      | in-Unsigned w ↦ rw w.signed-is (unsigned_class w.in-Unsigned.is)
    ] in
    word-proper c.args.place c.args.image.now c.requires w _ 1 _ _ c.position.ensures c.word_at-w.ensures (omega arith) c.is_promoted.ensures

pub returns-else-place-eq1 : goal.returns-else-place-eq1
returns-else-place-eq1 c =
    let w : Worded c.args.place.kind c.match-place.signed = elim c.match-place.branch [
      | in-Signed w ↦ rw w.signed-is (signed_class w.in-Signed.is)
      | in-Unsigned w ↦ rw w.signed-is (unsigned_class w.in-Unsigned.is)
    ] in
    word-proper c.args.place c.args.image.now c.requires w _ 2 _ _ c.position.ensures c.word_at-w.ensures (omega (arith, body_fits c.requires w)) c.is_promoted-else-place-eq1.ensures
