-- `o32_signature` meets its contract, for every device: the answer of `signature_of` in 32 bits.
use lib.ListN.{length}
use Rattle.device.specs.declared.Device.TheVariants.{Fpu}
use Rattle.capi.proofs.Bounds.{signature_fits}
use Rattle.capi.proofs.o32_signature.Goals as goal

pub narrowed-requires : goal.narrowed-requires
narrowed-requires c = signature_fits Fpu c.args.list.now (length c.args.signature.now) (c.signature_of-answer.ensures.answer Fpu)
