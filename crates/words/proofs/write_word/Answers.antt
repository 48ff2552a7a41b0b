-- `write_word` meets its contract: the four bytes are stored one after another.
use mathlib.Core.Path.{◌∙◌}
use native.Mathlib.Omega.{arith}
use native.Mathlib.Nat.{div-div-eq-div-mul}
use Rattle.words.specs.Words.{bytes_of}
use Rattle.words.proofs.Bytes.{part-written}
use Rattle.words.proofs.write_word.Goals as goal

pub returns : goal.returns
returns c = part-written c.args.out.now c.copy_from_slice.new.self (bytes_of 4 c.args.w) c.args.at _ (c.copy_from_slice.ensures.after ∙ c.to_be_bytes.ensures ∙ simp div-div-eq-div-mul) (omega arith) c.requires
