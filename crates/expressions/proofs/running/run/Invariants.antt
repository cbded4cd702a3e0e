use Rattle.std.proofs.Common.{◌≡◌, ◌+◌, ◌≤◌, [], length}
use Rattle.meaning.specs.Base.{each}
use Rattle.code.specs.Words.{code_in}
use Rattle.expressions.specs.Algebra.{run}
use Rattle.expressions.proofs.running.run.Given as goal

-- there is room for what is left, and what is left leads to the result
abbrev pub invariant-loop-instruction : goal.invariant-loop-instruction
invariant-loop-instruction g l =
    (length l.stack.items + length l.instruction-iterator ≤ l.stack.room)
    × (run (g.A.Algebra.sense l.algebra) l.instruction-iterator (each g.A.Algebra.meaning l.stack.items) ≡ run (g.A.Algebra.sense l.algebra) (code_in l.code) [])
