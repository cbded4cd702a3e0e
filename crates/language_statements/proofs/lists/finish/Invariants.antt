use Rattle.std.proofs.Common.{length}
use Rattle.language_statements.specs.Lists.{Unchanged}
use Rattle.language_statements.proofs.lists.finish.Given as goal

abbrev pub invariant-loop : goal.invariant-loop
invariant-loop g l = Unchanged g.L.FallibleIterator.more (g.L.FallibleIterator.left l.initial.list) (g.L.FallibleIterator.left l.list)

abbrev pub decreases-loop : goal.decreases-loop
decreases-loop g l = length (g.L.FallibleIterator.left l.list).pieces
