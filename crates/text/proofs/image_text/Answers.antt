-- `image_text` meets its contract: so far the buffer has the lines of the first i words over its start.
use mathlib.Core.Path.{◌≡◌, sym, ap, ◌∙◌}
use mathlib.Core.List.{List, ◌++◌}
use Prim.Native.Nat.{ℕ, ◌*◌, ◌/◌}
use native.Mathlib.Omega.{arith}
use native.Mathlib.Numerals.{add-one}
use lib.ListN.{length}
use Rattle.text.specs.Text.{lines, image_text}
use Rattle.text.proofs.Written.{overlay, paste_overlay-step, lines-length, short_stored, fitting_stored}
use Rattle.text.proofs.image_text.Goals as goal

pub returns-then-out-words : goal.returns-then-out-words
returns-then-out-words c =
    let image : List ℕ = c.args.image.now in
    let out : List ℕ = c.args.out.now in
    let h = short_stored (image_text image) out (omega (arith, lines-length image (length image / 4))) in
    record { value = h.0; out_after = h.1 }

pub loop-i-preserved : goal.loop-i-preserved
loop-i-preserved c =
    let image : List ℕ = c.args.image.now in
    let out : List ℕ = c.args.out.now in
    let i : ℕ = c.loop-i.i in
    let line = c.line-text in
    paste_overlay-step out (lines image i) line.result c.loop-i.invariant (sym (lines-length image i)) c.put.ensures.out_after
    ∙ ap (λ (m : List ℕ). overlay (lines image i ++ m) out) line.ensures
    ∙ ap (λ (k : ℕ). overlay (lines image k) out) (sym (add-one i))

pub returns : goal.returns
returns c =
    let image : List ℕ = c.args.image.now in
    let out : List ℕ = c.args.out.now in
    let l : length (image_text image) ≡ 9 * (length image / 4) = lines-length image (length image / 4) in
    let e : c.loop-i.i ≡ length image / 4 = omega arith in
    let h = fitting_stored (image_text image) out (omega arith) (sym l) (c.loop-i.invariant ∙ ap (λ (k : ℕ). overlay (lines image k) out) e) in
    record { value = h.0; out_after = h.1 }
