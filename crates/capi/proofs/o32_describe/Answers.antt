-- `o32_describe` meets its contract: the structure's numbers in 32 bits.
use Rattle.capi.proofs.Bounds.{structure_fits}
use Rattle.capi.proofs.o32_describe.Goals as goal

pub structure_numbers-requires : goal.structure_numbers-requires
structure_numbers-requires c = structure_fits c.args.description.now c.describe.ensures.answer
