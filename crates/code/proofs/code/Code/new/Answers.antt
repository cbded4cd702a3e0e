use Rattle.std.proofs.Common.{refl}
use Rattle.code.specs.Words.{code_in}
use Rattle.code.proofs.code.Code.new.Goals as goal

pub returns-clause-empty : goal.returns-clause-empty
unfolding code_in
returns-clause-empty c = refl
