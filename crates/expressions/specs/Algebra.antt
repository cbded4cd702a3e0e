-- What postfix code comes to over a stack, in any sense: of values, of types.
use Rattle.std.specs.Prelude.{ℕ, zero, suc, List, [], ◌∷◌}
use Rattle.std.proofs.Math.Option.{Option, some, none}
use Rattle.lent_stack.specs.Stacked.{rest}
use Rattle.meaning.specs.Base.{and_then}
use Rattle.meaning.specs.Values.{Value, null, num, word, Ty, t_num, t_word, Op, Row, apply_op, op_type, expect_type, of_truth, not3, truth, is_null, if3}
use Rattle.code.specs.Postfix.{Instr, i_num, i_word, i_null, i_col, i_op, i_not, i_none, i_if}

-- what each form of an expression comes to, as an A, with columns named by a C; a_empty is what an empty stack gives
pub record Algebra (C A : Type 0) : Type 0 where
  pub a_num : ℕ → A
  pub a_word : ℕ → A
  pub a_null : Ty → A
  pub a_col : C → A
  pub a_op : Op → A → A → A
  pub a_not : A → A
  pub a_none : A → A
  pub a_if : A → A → A → A
  pub a_empty : A

-- the top of a stack, or d if it is empty
abbrev pub top : {A : Type 0} → A → List A → A
top d [] = d
top d (x ∷ xs) = x

-- the stack after an instruction
abbrev pub run_one : {C A : Type 0} → Algebra C A → Instr C → List A → List A
run_one m (i_num n) st = m.a_num n ∷ st
run_one m (i_word n) st = m.a_word n ∷ st
run_one m (i_null t) st = m.a_null t ∷ st
run_one m (i_col x) st = m.a_col x ∷ st
run_one m (i_op o) st = m.a_op o (top m.a_empty (rest st)) (top m.a_empty st) ∷ rest (rest st)
run_one m i_not st = m.a_not (top m.a_empty st) ∷ rest st
run_one m i_none st = m.a_none (top m.a_empty st) ∷ rest st
run_one m i_if st = m.a_if (top m.a_empty (rest (rest st))) (top m.a_empty (rest st)) (top m.a_empty st) ∷ rest (rest (rest st))

-- the stack after instructions, one after the other
abbrev pub run : {C A : Type 0} → Algebra C A → List (Instr C) → List A → List A
run m [] st = st
run m (i ∷ is) st = run m is (run_one m i st)

-- what code comes to
abbrev pub result : {C A : Type 0} → Algebra C A → List (Instr C) → A
result m c = top m.a_empty (run m c [])

-- the value of a row in the column of this number; null if there is none
abbrev pub value_at : Row → ℕ → Value
value_at [] i = null
value_at (v ∷ r) zero = v
value_at (v ∷ r) (suc i) = value_at r i

-- values on a row
abbrev pub row_algebra : Row → Algebra ℕ Value
row_algebra r = record { a_num = num; a_word = word; a_null = λ t. null; a_col = value_at r; a_op = apply_op; a_not = λ v. of_truth (not3 (truth v)); a_none = is_null; a_if = λ a b c. if3 (truth a) b c; a_empty = null }

-- types, by those of the columns
abbrev pub type_algebra : (ℕ → Option Ty) → Algebra ℕ (Option Ty)
type_algebra f = record { a_num = λ n. some t_num; a_word = λ n. some t_word; a_null = some; a_col = f; a_op = op_type; a_not = λ a. expect_type a t_num (some t_num); a_none = λ a. and_then a (λ t. some t_num); a_if = λ a b c. expect_type a t_num (and_then b (λ t. expect_type c t (some t))); a_empty = none }
