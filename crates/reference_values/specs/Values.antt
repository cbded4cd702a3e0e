-- The code's values, types, truths and operators as those of a question's meaning.
use Rattle.std.specs.Prelude.{ℕ}
use Rattle.meaning.specs.Base.{map_or}
use Rattle.meaning.specs.Values.{Value as MeantValue, null, num, word, Ty, t_num, t_word, Truth as MeantTruth, yes, no, unknown, Op, op_arith, op_compare, op_logic, op_add, op_sub, op_mul, op_div, op_rem, op_eq, op_ne, op_lt, op_le, op_and, op_or, cell_value, by_arith, by_compare, bit}
use Rattle.reference_values.specs.declared.kinds.Kind.{Kind}
use Rattle.reference_values.specs.declared.kinds.Kind.TheVariants.{Num as NumKind, Word as WordKind}
use Rattle.reference_values.specs.declared.kinds.Operator.{Operator}
use Rattle.reference_values.specs.declared.kinds.Operator.TheVariants.{Add, Subtract, Multiply, Divide, Remainder, Equal, Differ, Less, AtMost, And, Or}
use Rattle.reference_values.specs.declared.values.Truth.{Truth}
use Rattle.reference_values.specs.declared.values.Truth.TheVariants.{True, False, Unknown}
use Rattle.reference_values.specs.declared.values.Value.{Value}
use Rattle.reference_values.specs.declared.values.Value.TheVariants.{Null, Number, Word}

-- the value that a value of the code stands for
abbrev pub meant : Value → MeantValue
meant Null = null
meant (Number n) = num n
meant (Word n) = word n

-- the type that a kind stands for
abbrev pub meant_type : Kind → Ty
meant_type NumKind = t_num
meant_type WordKind = t_word

-- the truth that a truth of the code stands for
abbrev pub meant_truth : Truth → MeantTruth
meant_truth True = yes
meant_truth False = no
meant_truth Unknown = unknown

-- the operator that an operator of the code stands for
abbrev pub meant_op : Operator → Op
meant_op Add = op_arith op_add
meant_op Subtract = op_arith op_sub
meant_op Multiply = op_arith op_mul
meant_op Divide = op_arith op_div
meant_op Remainder = op_arith op_rem
meant_op Equal = op_compare op_eq
meant_op Differ = op_compare op_ne
meant_op Less = op_compare op_lt
meant_op AtMost = op_compare op_le
meant_op And = op_logic op_and
meant_op Or = op_logic op_or

-- what a cell of a column of this type holds; what it can't hold is null
abbrev pub stored : Ty → ℕ → MeantValue
stored t n = map_or (cell_value t n) null (λ v. v)

-- what a comparison comes to on two numbers, also on those of two words; null of other operators
abbrev pub compared : Op → ℕ → ℕ → MeantValue
compared (op_arith o) x y = null
compared (op_compare o) x y = bit (by_compare o x y)
compared (op_logic o) x y = null

-- what arithmetic or a comparison comes to on two numbers; null of other operators
abbrev pub computed : Op → ℕ → ℕ → MeantValue
computed (op_arith o) x y = by_arith o x y
computed (op_compare o) x y = compared (op_compare o) x y
computed (op_logic o) x y = null
