-- Marks in words.
use Rattle.std.specs.Prelude.{ℕ, ◌/◌, ◌%◌, cond, ◌==◌}
use Rattle.values.specs.declared.types.Operator.{Operator}
use Rattle.code.specs.Operators.{operator_in}
use Rattle.language_expressions.specs.declared.machine.Chain.TheVariants.{Ors, Ands, Sums, Products}
use Rattle.language_expressions.specs.declared.machine.Mark.{Mark}
use Rattle.language_expressions.specs.declared.machine.Mark.TheVariants.{Chain, Applied, Comparison, Compared, Not, Paren, NoneParen, Then, Else, End}

-- a mark by its kind and its operator
abbrev pub mark_of : ℕ → Operator → Mark
mark_of k o =
    cond (k == 0) (Chain Ors) (cond (k == 1) (Chain Ands) (cond (k == 2) (Chain Sums) (cond (k == 3) (Chain Products)
    (cond (k == 4) (Applied Ors o) (cond (k == 5) (Applied Ands o) (cond (k == 6) (Applied Sums o) (cond (k == 7) (Applied Products o)
    (cond (k == 8) Comparison (cond (k == 9) (Compared o) (cond (k == 10) Not (cond (k == 11) Paren (cond (k == 12) NoneParen
    (cond (k == 13) Then (cond (k == 14) Else End))))))))))))))

-- a mark in a word: its kind below 16, its operator above
abbrev pub mark_in : ℕ → Mark
mark_in w = mark_of (w % 16) (operator_in (w / 16))
