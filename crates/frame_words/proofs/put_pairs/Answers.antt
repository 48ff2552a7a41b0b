-- `put_pairs` meets its contract: a turn of its loop adds what the mask names at k.
use Rattle.std.proofs.Common.{◌≡◌, refl, sym, ◌∙◌, ◌+◌, ◌*◌, ◌≤◌, ◌<◌, ℕ, arith}
use Rattle.frame.specs.Masks.{count_below}
use Rattle.frame.proofs.Masks.{count_below_le}
use Rattle.frame_words.specs.Limits.{offset_most, start_most}
use Rattle.frame_words.proofs.Emit.{put-none, put-room, turn_named, turn_unnamed}
use Rattle.frame_words.proofs.put_pairs.Goals as goal
use Rattle.frame_words.proofs.put_pairs.Goals.{then-is_named, else-is_named}

-- where the next save word lies, and that an instruction reaches it
offset-is : (offset at start n mask k : ℕ) → offset + at ≡ start + n → n ≡ at + 8 * count_below mask k → offset ≡ start + 8 * count_below mask k
offset-is offset at start n mask k e p = omega arith

offset_small : (offset start mask k : ℕ) → offset ≡ start + 8 * count_below mask k → start ≤ start_most → k < 6 → offset + 8 ≤ offset_most
offset_small offset start mask k e s h = omega (arith, count_below_le mask k)

pub loop-k-init : goal.loop-k-init
loop-k-init c = (omega arith, put-none _ _ _ _ _ _ _ (omega arith))

pub put_pair-requires : goal.put_pair-requires
put_pair-requires c =
    let i = c.loop-k.invariant in
    let e = offset-is _ _ _ _ c.args.mask c.loop-k.k i.0 i.1.place in
    let h = offset_small _ _ c.args.mask _ e c.requires.op_le_op_most.1 c.loop-k-test.true in (
      c.requires.op_le_op_most.0,
      omega arith,
      c.loop-k-test.true,
      -- there is room for what is named
      put-room i.1 6 c.loop-k-test.true (sym c.is_named.ensures ∙ c.if-is_named.true) c.requires.mask_in_bounds,
    )

pub overflow_add-offset : goal.overflow_add-offset
overflow_add-offset c =
    let i = c.loop-k.invariant in
    let e = offset-is _ _ _ _ c.args.mask c.loop-k.k i.0 i.1.place in
    omega (arith, offset_small _ _ c.args.mask _ e c.requires.op_le_op_most.1 c.loop-k-test.true)

pub loop-k-preserved : goal.loop-k-preserved
loop-k-preserved c =
    let i = c.loop-k.invariant in
    let e = sym c.is_named.ensures in
    let o = offset-is _ _ _ _ c.args.mask c.loop-k.k i.0 i.1.place in (
      elim c.if-is_named.branch [ then-is_named w ↦ omega arith | else-is_named w ↦ omega arith ],
      elim c.if-is_named.branch [
        | then-is_named w ↦ turn_named i.1 (λ j. refl) (e ∙ w.if-is_named.true) w.n-is (w.out-is ∙ rw o at w.put_pair.ensures)
        | else-is_named w ↦ turn_unnamed i.1 (e ∙ w.if-is_named.false) w.n-is w.out-is
      ],
    )
