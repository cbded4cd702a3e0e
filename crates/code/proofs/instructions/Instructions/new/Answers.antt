use Rattle.std.proofs.Common.{refl}
use Rattle.code.proofs.InWords.{code_in_length}
use Rattle.code.proofs.instructions.Instructions.new.Goals as goal

pub returns : goal.returns
returns c = record { code = refl; count = code_in_length c.args.words.now }
