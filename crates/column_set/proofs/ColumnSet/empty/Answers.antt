use Rattle.column_set.proofs.Has.{has_none}
use Rattle.column_set.proofs.ColumnSet.empty.Goals as goal

pub returns-clause-columns : goal.returns-clause-columns
returns-clause-columns c = has_none
