-- `put_number` meets its contract: `put` lays the text, and then the digits after it.
use mathlib.Core.Path.{ap, ◌∙◌}
use mathlib.Core.List.{List, ◌++◌}
use Prim.Native.Nat.{ℕ}
use native.Mathlib.Omega.{arith}
use lib.ListN.{take}
use Rattle.text.proofs.Decimal.{fewest_decimal}
use Rattle.text.proofs.Written.{take_put}
use Rattle.text.proofs.put_number.Goals as goal

pub returns-clause-out_after : goal.returns-clause-out_after
returns-clause-out_after c =
    let s = c.args in
    let digits : List ℕ = take c.decimal-n.result c.decimal-n.new.out in
    take_put digits c.put-next.new.out (omega arith) c.put.ensures.out_after c.put.ensures.value
    ∙ ap (λ (l : List ℕ). l ++ digits) (take_put s.text.now s.out.now (omega arith) c.put-next.ensures.out_after c.put-next.ensures.value)
    ∙ ap (λ (l : List ℕ). take s.at s.out.now ++ s.text.now ++ l) (c.decimal-n.ensures.digits ∙ fewest_decimal s.number c.decimal-n.result c.decimal-n.ensures.len)
