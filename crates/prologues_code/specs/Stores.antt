-- What the check's inner functions answer: the store of each register, by its number.
use Rattle.std.specs.Prelude.{cond, ℕ, ◌+◌, ◌-◌, ◌*◌, ◌/◌, ◌%◌, eqb, ltb, Option, Some, None}
use Rattle.frame.specs.declared.Request.{Request}
use Rattle.frame.specs.Masks.{names}
use Rattle.frame.specs.Frame.{offset_of_register}
use Rattle.frame.specs.Words.{lowering}
use Rattle.frame.specs.Keeping.{offset_of_pair}

-- The store of general register k, and of floating register n, at its place, where it is named.
unfoldable pub general_store : Request → ℕ → Option ℕ
general_store r k = cond (names r.general k) (Some (0xAFA00000 + 65536 * k + offset_of_register r k)) None

unfoldable pub floating_store : Request → ℕ → Option ℕ
floating_store r n =
    cond (ltb n 20) None
    (let pair = (n - 20) / 2 in cond (names r.pairs pair) (Some (0xE7A00000 + 65536 * n + (offset_of_pair r pair + 4 * (n % 2)))) None)

-- The store of register k, where floating registers are 32 plus their number.
unfoldable pub store_of : Request → ℕ → Option ℕ
store_of r k = cond (ltb k 32) (general_store r k) (floating_store r (k - 32))

-- The number of the register that a store names, by the store's own bits: `sw` is below 0xE0000000, `swc1` is not.
abbrev pub register_in : ℕ → ℕ
register_in w = cond (ltb w 0xE0000000) (w / 65536 % 32) (32 + w / 65536 % 32)

-- The first word of a prologue, where there is a frame.
abbrev pub first_word : ℕ → Option ℕ
first_word F = cond (eqb F 0) None (Some (lowering F))
