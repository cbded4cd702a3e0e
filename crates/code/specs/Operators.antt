-- The numbers of operators.
use Rattle.std.specs.Prelude.{ℕ, cond, ◌==◌}
use Rattle.values.specs.declared.types.Operator.{Operator}
use Rattle.values.specs.declared.types.Operator.TheVariants.{Arithmetic, Comparison as Compare, Logic}
use Rattle.values.specs.declared.types.Arithmetic.TheVariants.{Add, Subtract, Multiply, Divide, Remainder}
use Rattle.values.specs.declared.types.Comparison.TheVariants.{Equal, NotEqual, Less, LessOrEqual}
use Rattle.values.specs.declared.types.Logic.TheVariants.{And, Or}

-- an operator by its number
abbrev pub operator_in : ℕ → Operator
operator_in n =
    cond (n == 0) (Arithmetic Add) (cond (n == 1) (Arithmetic Subtract) (cond (n == 2) (Arithmetic Multiply)
    (cond (n == 3) (Arithmetic Divide) (cond (n == 4) (Arithmetic Remainder)
    (cond (n == 5) (Compare Equal) (cond (n == 6) (Compare NotEqual) (cond (n == 7) (Compare Less) (cond (n == 8) (Compare LessOrEqual)
    (cond (n == 9) (Logic And) (Logic Or))))))))))
