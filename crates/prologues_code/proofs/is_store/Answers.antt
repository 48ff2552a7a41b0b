-- `is_store` meets its contract: a word is a store just where it is that of the register which it names.
use Rattle.std.proofs.Common.{◌∙◌}
use Rattle.prologues_code.proofs.Stores.{named-one}
use Rattle.prologues_code.proofs.is_store.Goals as goal

pub returns : goal.returns
returns c = rw (c.store_of.ensures, c.register_in.ensures) at c.eq.ensures ∙ named-one c.args.saves.areas _
