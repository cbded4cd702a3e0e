-- Code in words, two to an instruction: the operation and its operand.
use Rattle.std.specs.Prelude.{ℕ, ◌+◌, ◌*◌, cond, List, [], ◌∷◌, ◌==◌, nat_lt, slice_index}
use Rattle.meaning.specs.Values.{t_num, t_word, num_limit, word_limit, op_arith, op_compare, op_logic, op_add, op_sub, op_mul, op_div, op_rem, op_eq, op_ne, op_lt, op_le, op_and, op_or}
use Rattle.values.specs.Types.{type_of_kind, op_of}
use Rattle.code.specs.Postfix.{Instr, i_num, i_word, i_null, i_col, i_op, i_not, i_none, i_if}
use Rattle.code.specs.declared.instruction.Instruction.{Instruction}
use Rattle.code.specs.declared.instruction.Instruction.TheVariants.{Number, Word, Null, Column, Operator, Not, IsNull, If}

-- an instruction of the code as one of postfix order
abbrev pub instr_of : Instruction → Instr ℕ
instr_of (Number n) = i_num n.value
instr_of (Word w) = i_word w.number
instr_of (Null k) = i_null (type_of_kind k)
instr_of (Column i) = i_col i
instr_of (Operator o) = i_op (op_of o)
instr_of Not = i_not
instr_of IsNull = i_none
instr_of If = i_if

-- the instruction that an operation t with its operand a stands for; a constant that is no value is null
abbrev pub unpacked : ℕ → ℕ → Instr ℕ
unpacked t a =
    cond (t == 0) (cond (nat_lt a num_limit) (i_num a) (i_null t_num))
    (cond (t == 1) (cond (nat_lt a word_limit) (i_word a) (i_null t_word))
    (cond (t == 2) (i_null t_num) (cond (t == 3) (i_null t_word) (cond (t == 4) (i_col a)
    (cond (t == 5) (i_op (op_arith op_add)) (cond (t == 6) (i_op (op_arith op_sub)) (cond (t == 7) (i_op (op_arith op_mul))
    (cond (t == 8) (i_op (op_arith op_div)) (cond (t == 9) (i_op (op_arith op_rem))
    (cond (t == 10) (i_op (op_compare op_eq)) (cond (t == 11) (i_op (op_compare op_ne))
    (cond (t == 12) (i_op (op_compare op_lt)) (cond (t == 13) (i_op (op_compare op_le))
    (cond (t == 14) (i_op (op_logic op_and)) (cond (t == 15) (i_op (op_logic op_or))
    (cond (t == 16) i_not (cond (t == 17) i_none i_if)))))))))))))))))

-- the i-th instruction in words
abbrev pub instruction_at : List ℕ → ℕ → Instr ℕ
instruction_at ws i = unpacked (slice_index ws (2 * i)) (slice_index ws (2 * i + 1))

-- the instructions in words, one after the other
abbrev pub unpack_all : List ℕ → List (Instr ℕ)
unpack_all [] = []
unpack_all (t ∷ []) = []
unpack_all (t ∷ (a ∷ ws)) = unpacked t a ∷ unpack_all ws

-- the code in words
unfoldable pub code_in : List ℕ → List (Instr ℕ)
code_in ws = unpack_all ws
