-- The code's values, types, truths and operators as those of the definitions.
use Rattle.std.proofs.Math.Option.{Option, some, none}
use Rattle.std.specs.Prelude.{ℕ, Some, None, Option as Given}
use Rattle.meaning.specs.Values.{Value as V, null, num, word, Ty, t_num, t_word, Truth as Tr, yes, no, unknown, Arith, op_add, op_sub, op_mul, op_div, op_rem, Compare, op_eq, op_ne, op_lt, op_le, Logic as Lg, op_and, op_or, Op, op_arith, op_compare, op_logic}
use Rattle.values.specs.declared.word.Word.{Word as W}
use Rattle.values.specs.declared.types.Value.{Value}
use Rattle.values.specs.declared.types.Value.TheVariants.{Null, Number, Word}
use Rattle.values.specs.declared.types.Kind.{Kind}
use Rattle.values.specs.declared.types.Kind.TheVariants.{Number as NumberKind, Word as WordKind}
use Rattle.values.specs.declared.types.Truth.{Truth}
use Rattle.values.specs.declared.types.Truth.TheVariants.{True, False, Unknown}
use Rattle.values.specs.declared.types.Arithmetic.{Arithmetic}
use Rattle.values.specs.declared.types.Arithmetic.TheVariants.{Add, Subtract, Multiply, Divide, Remainder}
use Rattle.values.specs.declared.types.Comparison.{Comparison}
use Rattle.values.specs.declared.types.Comparison.TheVariants.{Equal, NotEqual, Less, LessOrEqual}
use Rattle.values.specs.declared.types.Logic.{Logic}
use Rattle.values.specs.declared.types.Logic.TheVariants.{And, Or}
use Rattle.values.specs.declared.types.Operator.{Operator}
use Rattle.values.specs.declared.types.Operator.TheVariants.{Arithmetic as ArithmeticOp, Comparison as ComparisonOp, Logic as LogicOp}

-- a value
abbrev pub value_of : Value → V
value_of Null = null
value_of (Number n) = num n.value
value_of (Word w) = word w.number

-- a type
abbrev pub type_of_kind : Kind → Ty
type_of_kind NumberKind = t_num
type_of_kind WordKind = t_word

-- a truth
abbrev pub truth_of : Truth → Tr
truth_of True = yes
truth_of False = no
truth_of Unknown = unknown

-- an operator on two numbers
abbrev pub arith_of : Arithmetic → Arith
arith_of Add = op_add
arith_of Subtract = op_sub
arith_of Multiply = op_mul
arith_of Divide = op_div
arith_of Remainder = op_rem

-- a comparison
abbrev pub compare_of : Comparison → Compare
compare_of Equal = op_eq
compare_of NotEqual = op_ne
compare_of Less = op_lt
compare_of LessOrEqual = op_le

-- an operator on two truths
abbrev pub logic_of : Logic → Lg
logic_of And = op_and
logic_of Or = op_or

-- any operator on two values
abbrev pub op_of : Operator → Op
op_of (ArithmeticOp o) = op_arith (arith_of o)
op_of (ComparisonOp o) = op_compare (compare_of o)
op_of (LogicOp o) = op_logic (logic_of o)

-- the number of a word, if there is one
abbrev pub number_of_word : Given W → Option ℕ
number_of_word None = none
number_of_word (Some w) = some w.number
