-- `refusal_text` meets its contract: the line fits, or the buffer stays as it was.
use mathlib.Core.Path.{◌≡◌, refl, ◌∙◌}
use mathlib.Core.List.{List, []}
use Prim.Native.Nat.{ℕ}
use native.Mathlib.Nat.{zero-add}
use native.Mathlib.Omega.{arith}
use lib.ListN.{length, take}
use lib.Seq.{length-take-le}
use Rattle.text.proofs.Written.{paste_overlay-step, short_stored, fitting_stored}
use Rattle.text.proofs.refusal_text.Goals as goal

pub returns-then-out-n : goal.returns-then-out-n
returns-then-out-n c =
    let line : List ℕ = take c.put_refusal-n.result c.put_refusal-n.new.out in
    let l : length line ≡ c.put_refusal-n.result = length-take-le _ _ (omega arith) in
    let h = rw c.put_refusal-n.ensures.out_after at (short_stored line c.args.out.now (omega (arith, l))) in
    record { value = h.0; out_after = h.1 }

pub returns : goal.returns
returns c =
    let line : List ℕ = take c.put_refusal-n.result c.put_refusal-n.new.out in
    let l : length line ≡ c.put_refusal-n.result = length-take-le _ _ (omega arith) in
    let out : List ℕ = c.args.out.now in
    let h = rw c.put_refusal-n.ensures.out_after at (fitting_stored line out (omega (arith, l)) (c.put.ensures.value ∙ zero-add _) (paste_overlay-step out [] line refl refl c.put.ensures.out_after)) in
    record { value = h.0; out_after = h.1 }
