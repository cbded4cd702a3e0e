use Rattle.std.proofs.Common.{◌≡◌, ℕ, ◌<◌, ◌||◌}
use Rattle.meaning.specs.Base.{any}
use Rattle.column_set.specs.Membership.{has}
use Rattle.code.specs.Words.{code_in}
use Rattle.code_columns.specs.Columns.{names_col}
use Rattle.code_columns.proofs.named.columns_named.Given as goal

abbrev pub invariant-loop-instruction : goal.invariant-loop-instruction
invariant-loop-instruction l =
    (l.set.width ≡ l.width) ×
    ((k : ℕ) → k < l.width → (has l.set.bits k || any (names_col k) l.instruction-iterator) ≡ any (names_col k) (code_in l.code))
