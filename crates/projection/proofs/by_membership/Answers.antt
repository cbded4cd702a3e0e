use Rattle.projection.proofs.UsedTests.{used_by_membership, join_used_by_membership}
use Rattle.projection.proofs.by_membership.Goals as goal

pub returns : goal.returns
returns c = record { row = used_by_membership; join = join_used_by_membership }
