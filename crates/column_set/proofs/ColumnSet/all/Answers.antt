use Rattle.std.proofs.Common.{ap, ◌∙◌}
use Rattle.column_set.specs.Membership.{has}
use Rattle.column_set.proofs.Has.{has_ones}
use Rattle.column_set.proofs.ColumnSet.all.Goals as goal

pub returns-clause-columns : goal.returns-clause-columns
returns-clause-columns c = λ k. ap (λ x. has x k) c.bits_before.ensures ∙ has_ones c.args.width k
