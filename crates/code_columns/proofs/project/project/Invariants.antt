use Rattle.std.proofs.Common.{◌≡◌, ℕ, ◌<◌, ◌≤◌}
use Rattle.code.specs.Postfix.{map_col}
use Rattle.code.specs.Words.{instruction_at}
use Rattle.code_columns.specs.Columns.{new_index}
use Rattle.code_columns.proofs.project.project.Given as goal

abbrev pub invariant-loop-i : goal.invariant-loop-i
invariant-loop-i l =
    ((k : ℕ) → k < l.i → instruction_at l.code k ≡ map_col (new_index l.used) (instruction_at l.initial.code k)) ×
    ((k : ℕ) → l.i ≤ k → instruction_at l.code k ≡ instruction_at l.initial.code k)
