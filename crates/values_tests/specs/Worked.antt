-- Code in words, and the expressions that it stands for.
use Rattle.std.specs.Prelude.{◌≡◌, List, [], ◌∷◌, codes}
use Rattle.meaning.specs.Values.{t_num, t_word, word_number, Col, e_num, e_word, e_null, e_col, e_op, e_none, e_if, op_compare, op_logic, op_lt, op_and, op_or}
use Rattle.code.specs.Postfix.{code_for}
use Rattle.code.specs.Words.{code_in}

-- columns late and day, of numbers
abbrev pub columns : List Col
columns = record { name = codes "late"; ty = t_num } ∷ record { name = codes "day"; ty = t_num } ∷ []

-- late < 20 and day < 2 or none(late)
abbrev pub Condition : Type 0
Condition =
    code_in (4 ∷ 0 ∷ 0 ∷ 20 ∷ 12 ∷ 0 ∷ 4 ∷ 1 ∷ 0 ∷ 2 ∷ 12 ∷ 0 ∷ 14 ∷ 0 ∷ 4 ∷ 0 ∷ 17 ∷ 0 ∷ 15 ∷ 0 ∷ [])
    ≡ code_for columns
    (e_op (op_logic op_or)
    (e_op (op_logic op_and) (e_op (op_compare op_lt) (e_col (codes "late")) (e_num 20)) (e_op (op_compare op_lt) (e_col (codes "day")) (e_num 2)))
    (e_none (e_col (codes "late"))))

-- if late then 'a' else none word
abbrev pub Choice : Type 0
Choice =
    code_in (4 ∷ 0 ∷ 1 ∷ 27303072740933632 ∷ 3 ∷ 0 ∷ 18 ∷ 0 ∷ [])
    ≡ code_for columns (e_if (e_col (codes "late")) (e_word (word_number (codes "a"))) (e_null t_word))
