-- Expressions as postfix code.
use Rattle.std.specs.Prelude.{ℕ, suc, cond, List, [], ◌∷◌, ◌++◌}
use Rattle.meaning.specs.Base.{each, Bytes, same_bytes}
use Rattle.meaning.specs.Values.{Ty, Op, Expr, e_num, e_word, e_null, e_col, e_op, e_not, e_none, e_if, Col}

-- an instruction; columns are named by an A
pub data Instr (A : Type 0) : Type 0 where
  i_num : ℕ → Instr A
  i_word : ℕ → Instr A
  i_null : Ty → Instr A
  i_col : A → Instr A
  i_op : Op → Instr A
  i_not : Instr A
  i_none : Instr A
  i_if : Instr A

-- an expression in postfix order
abbrev pub postfix : Expr → List (Instr Bytes)
postfix (e_num n) = i_num n ∷ []
postfix (e_word n) = i_word n ∷ []
postfix (e_null t) = i_null t ∷ []
postfix (e_col x) = i_col x ∷ []
postfix (e_op o a b) = postfix a ++ (postfix b ++ (i_op o ∷ []))
postfix (e_not a) = postfix a ++ (i_not ∷ [])
postfix (e_none a) = postfix a ++ (i_none ∷ [])
postfix (e_if a b c) = postfix a ++ (postfix b ++ (postfix c ++ (i_if ∷ [])))

-- an instruction with its column named otherwise
abbrev pub map_col : {A B : Type 0} → (A → B) → Instr A → Instr B
map_col f (i_num n) = i_num n
map_col f (i_word n) = i_word n
map_col f (i_null t) = i_null t
map_col f (i_col x) = i_col (f x)
map_col f (i_op o) = i_op o
map_col f i_not = i_not
map_col f i_none = i_none
map_col f i_if = i_if

-- the number of the first column of this name; behind them all if there is none
abbrev pub col_index : List Col → Bytes → ℕ
col_index [] x = 0
col_index (c ∷ cs) x = cond (same_bytes c.name x) 0 (suc (col_index cs x))

-- the code of an expression over columns cs, columns by their numbers
abbrev pub code_for : List Col → Expr → List (Instr ℕ)
code_for cs e = each (map_col (col_index cs)) (postfix e)
