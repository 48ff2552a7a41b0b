-- `put_registers` meets its contract: a turn of its loop adds what the mask names at k.
use Rattle.std.proofs.Common.{◌≡◌, refl, sym, ◌∙◌, ◌+◌, ◌*◌, arith}
use Rattle.frame.specs.Masks.{count_below}
use Rattle.frame_words.proofs.Emit.{put-none, put-room, turn_named, turn_unnamed}
use Rattle.frame_words.proofs.put_registers.Goals as goal
use Rattle.frame_words.proofs.put_registers.Goals.{then-is_named, else-is_named}

pub loop-k-init : goal.loop-k-init
loop-k-init c = put-none _ _ _ _ _ _ _ c.requires.mask_value

-- there is room for what is named
pub write_word-requires : goal.write_word-requires
write_word-requires c =
    put-room c.loop-k.invariant 32 c.loop-k-test.true (sym c.is_named.ensures ∙ c.if-is_named.true) c.requires.mask_in_bounds

pub loop-k-preserved : goal.loop-k-preserved
loop-k-preserved c =
    let s = c.args in
    let l = c.loop-k in
    let e = sym c.is_named.ensures in
    elim c.if-is_named.branch [
      | then-is_named w ↦
          let q : w.word.result ≡ s.op + 65536 * l.k + (s.start + 4 * count_below s.mask l.k) = omega arith in
          turn_named l.invariant (λ j. refl) (e ∙ w.if-is_named.true) w.n-is (w.out-is ∙ rw q at w.write_word.ensures)
      | else-is_named w ↦ turn_unnamed l.invariant (e ∙ w.if-is_named.false) w.n-is w.out-is
    ]
