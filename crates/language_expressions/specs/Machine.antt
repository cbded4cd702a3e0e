-- The reading of an expression turn by turn: operands that are wanted, marks of what is left to do, and the code so far.
use Rattle.std.specs.Prelude.{ℕ, cond, List, [], ◌∷◌, ◌++◌, Some, None, codes, Option as Given}
use Rattle.std.proofs.Math.Option.{Option, some, none}
use Rattle.meaning.specs.Base.{map_or, and_then, Bytes, same_bytes}
use Rattle.meaning.specs.Values.{t_num, t_word, Op, op_arith, op_compare, op_logic, op_add, op_sub, op_mul, op_div, op_rem, op_eq, op_ne, op_lt, op_le, op_and, op_or}
use Rattle.meaning.specs.Text.{head_piece, tail_pieces, as_number, as_word, is_name, level_op, comparison_op}
use Rattle.values.specs.Types.{op_of}
use Rattle.values.specs.declared.types.Operator.{Operator}
use Rattle.values.specs.declared.types.Operator.TheVariants.{Arithmetic, Comparison as Compare, Logic}
use Rattle.values.specs.declared.types.Arithmetic.TheVariants.{Add, Subtract, Multiply, Divide, Remainder}
use Rattle.values.specs.declared.types.Comparison.TheVariants.{Equal, NotEqual, Less, LessOrEqual}
use Rattle.values.specs.declared.types.Logic.TheVariants.{And, Or}
use Rattle.code.specs.Postfix.{Instr, i_num, i_word, i_null, i_col, i_op, i_not, i_none, i_if}
use Rattle.language_expressions.specs.declared.machine.Level.{Level}
use Rattle.language_expressions.specs.declared.machine.Level.TheVariants.{If as l_if, Or as l_or, And as l_and, Not as l_not, Sum as l_sum, Product as l_product, Primary as l_primary}
use Rattle.language_expressions.specs.declared.machine.Chain.{Chain}
use Rattle.language_expressions.specs.declared.machine.Chain.TheVariants.{Ors, Ands, Sums, Products}
use Rattle.language_expressions.specs.declared.machine.Mark.{Mark}
use Rattle.language_expressions.specs.declared.machine.Mark.TheVariants.{Chain as m_chain, Applied as m_applied, Comparison as m_comparison, Compared as m_compared, Not as m_not, Paren as m_paren, NoneParen as m_none, Then as m_then, Else as m_else, End as m_end}

-- the number of a chain's level in the definitions
abbrev pub chain_level : Chain → ℕ
chain_level Ors = 1
chain_level Ands = 2
chain_level Sums = 4
chain_level Products = 5

-- the operands of a chain
abbrev pub tighter : Chain → Level
tighter Ors = l_and
tighter Ands = l_not
tighter Sums = l_product
tighter Products = l_primary

-- the code's operator for one of the definitions
abbrev pub operator : Op → Operator
operator (op_arith op_add) = Arithmetic Add
operator (op_arith op_sub) = Arithmetic Subtract
operator (op_arith op_mul) = Arithmetic Multiply
operator (op_arith op_div) = Arithmetic Divide
operator (op_arith op_rem) = Arithmetic Remainder
operator (op_compare op_eq) = Compare Equal
operator (op_compare op_ne) = Compare NotEqual
operator (op_compare op_lt) = Compare Less
operator (op_compare op_le) = Compare LessOrEqual
operator (op_logic op_and) = Logic And
operator (op_logic op_or) = Logic Or

-- the operator of a chain that a piece is
abbrev pub chain_operator : Chain → Bytes → Option Operator
chain_operator h p = and_then (level_op (chain_level h) p) (λ o. some (operator o))

-- the comparison that a piece is
abbrev pub comparison : Bytes → Option Operator
comparison p = and_then (comparison_op p) (λ o. some (operator o))

-- a state: an operand of a level is wanted, or one was read; the pieces to come, the marks, the code so far
pub data State : Type 0 where
  wants : Level → List Bytes → List Mark → List (Instr Bytes) → State
  has : List Bytes → List Mark → List (Instr Bytes) → State

-- what a turn comes to: another state, the whole code, or nothing
pub data Outcome : Type 0 where
  goes_on : State → Outcome
  comes_to : List (Instr Bytes) → Outcome
  fails : Outcome

-- go on behind a piece that has to come next
abbrev pub must : Bytes → List Bytes → (List Bytes → Outcome) → Outcome
must p l k = cond (same_bytes (head_piece l) p) (k (tail_pieces l)) fails

-- the instruction of a piece that is an operand by itself
abbrev pub leaf : Bytes → Option (Instr Bytes)
leaf p = map_or (as_number p) (map_or (as_word p) (cond (is_name p) (some (i_col p)) none) (λ n. some (i_word n))) (λ n. some (i_num n))

-- behind the word none: an expression in parentheses, or a type
abbrev pub none_turn : List Bytes → List Mark → List (Instr Bytes) → Outcome
none_turn l M c =
    cond (same_bytes (head_piece l) (codes "(")) (goes_on (wants l_if (tail_pieces l) (m_none ∷ M) c))
    (cond (same_bytes (head_piece l) (codes "num")) (goes_on (has (tail_pieces l) M (c ++ (i_null t_num ∷ []))))
    (cond (same_bytes (head_piece l) (codes "word")) (goes_on (has (tail_pieces l) M (c ++ (i_null t_word ∷ []))))
    fails))

-- a turn at which a primary is wanted
abbrev pub primary_turn : List Bytes → List Mark → List (Instr Bytes) → Outcome
primary_turn l M c =
    cond (same_bytes (head_piece l) (codes "(")) (goes_on (wants l_if (tail_pieces l) (m_paren ∷ M) c))
    (cond (same_bytes (head_piece l) (codes "none")) (none_turn (tail_pieces l) M c)
    (map_or (leaf (head_piece l)) fails (λ i. goes_on (has (tail_pieces l) M (c ++ (i ∷ []))))))

-- a turn at which an operand of a level is wanted
abbrev pub operand_turn : Level → List Bytes → List Mark → List (Instr Bytes) → Outcome
operand_turn l_if l M c =
    cond (same_bytes (head_piece l) (codes "if")) (goes_on (wants l_if (tail_pieces l) (m_then ∷ M) c)) (goes_on (wants l_or l M c))
operand_turn l_or l M c = goes_on (wants l_and l (m_chain Ors ∷ M) c)
operand_turn l_and l M c = goes_on (wants l_not l (m_chain Ands ∷ M) c)
operand_turn l_not l M c =
    cond (same_bytes (head_piece l) (codes "not")) (goes_on (wants l_not (tail_pieces l) (m_not ∷ M) c)) (goes_on (wants l_sum l (m_comparison ∷ M) c))
operand_turn l_sum l M c = goes_on (wants l_product l (m_chain Sums ∷ M) c)
operand_turn l_product l M c = goes_on (wants l_primary l (m_chain Products ∷ M) c)
operand_turn l_primary l M c = primary_turn l M c

-- the end of an expression, which is that of the line
abbrev pub end_turn : List Bytes → List (Instr Bytes) → Outcome
end_turn [] c = comes_to c
end_turn (p ∷ l) c = fails

-- a turn at which an operand was read: by the mark that was set last
abbrev pub operator_turn : List Mark → List Bytes → List (Instr Bytes) → Outcome
operator_turn [] l c = end_turn l c
operator_turn (m_chain h ∷ M) l c =
    map_or (chain_operator h (head_piece l)) (goes_on (has l M c)) (λ o. goes_on (wants (tighter h) (tail_pieces l) (m_applied h o ∷ M) c))
operator_turn (m_applied h o ∷ M) l c = goes_on (has l (m_chain h ∷ M) (c ++ (i_op (op_of o) ∷ [])))
operator_turn (m_comparison ∷ M) l c =
    map_or (comparison (head_piece l)) (goes_on (has l M c)) (λ o. goes_on (wants l_sum (tail_pieces l) (m_compared o ∷ M) c))
operator_turn (m_compared o ∷ M) l c = goes_on (has l M (c ++ (i_op (op_of o) ∷ [])))
operator_turn (m_not ∷ M) l c = goes_on (has l M (c ++ (i_not ∷ [])))
operator_turn (m_paren ∷ M) l c = must (codes ")") l (λ l1. goes_on (has l1 M c))
operator_turn (m_none ∷ M) l c = must (codes ")") l (λ l1. goes_on (has l1 M (c ++ (i_none ∷ []))))
operator_turn (m_then ∷ M) l c = must (codes "then") l (λ l1. goes_on (wants l_if l1 (m_else ∷ M) c))
operator_turn (m_else ∷ M) l c = must (codes "else") l (λ l1. goes_on (wants l_if l1 (m_end ∷ M) c))
operator_turn (m_end ∷ M) l c = goes_on (has l M (c ++ (i_if ∷ [])))

-- a turn from any state
abbrev pub turn : State → Outcome
turn (wants w l M c) = operand_turn w l M c
turn (has l M c) = operator_turn M l c

-- an option of the code as one of the definitions
abbrev pub given : {A : Type 0} → Given A → Option A
given None = none
given (Some x) = some x
