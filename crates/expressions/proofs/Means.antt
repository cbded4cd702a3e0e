-- What postfix code comes to is what its expression does.
use Rattle.std.proofs.Common.{◌≡◌, ℕ, suc, ◌≤◌, true, false, cond, ltb, List, [], ◌∷◌, ◌++◌, length, sym, refl, ap, ◌∙◌, ap₂, ⊎_elim, append_assoc, append-nil, arith}
use mathlib.Core.Option.{Option, some, none}
use Rattle.std.proofs.lemmas.Bool.Decides.{nat_tests}
use Rattle.column_set.specs.Membership.{has}
use Rattle.meaning.specs.Base.{each, and_then, Bytes, same_bytes}
use Rattle.meaning.specs.Values.{null, Ty, t_num, t_word, Expr, e_num, e_word, e_null, e_col, e_op, e_not, e_none, e_if, Col, Row, get, col_type, apply_op, op_type, expect_type, of_truth, not3, truth, is_null, eval, type_of}
use Rattle.code.proofs.ColIndex.{index_found}
use Rattle.code.specs.Postfix.{Instr, i_num, i_word, i_null, i_col, i_op, i_not, i_none, i_if, postfix, map_col, col_index, code_for}
use Rattle.expressions.specs.Algebra.{Algebra, top, run_one, run, result, value_at, row_algebra, type_algebra}
use Rattle.expressions.specs.Words.{is_word, col_type_at, WordColumns}

abbrev pub fold : {A : Type 0} → Algebra Bytes A → Expr → A
fold m (e_num n) = m.a_num n
fold m (e_word n) = m.a_word n
fold m (e_null t) = m.a_null t
fold m (e_col x) = m.a_col x
fold m (e_op o a b) = m.a_op o (fold m a) (fold m b)
fold m (e_not a) = m.a_not (fold m a)
fold m (e_none a) = m.a_none (fold m a)
fold m (e_if a b c) = m.a_if (fold m a) (fold m b) (fold m c)

-- the code of an expression leaves on the stack what it comes to
pub works : {A : Type 0} (m : Algebra Bytes A) (e : Expr) (d : List (Instr Bytes)) (st : List A) → run m (postfix e ++ d) st ≡ run m d (fold m e ∷ st)
works m (e_num n) d st = refl
works m (e_word n) d st = refl
works m (e_null t) d st = refl
works m (e_col x) d st = refl
works m (e_op o a b) d st = rw (append_assoc, append_assoc) (works m a (postfix b ++ ((i_op o ∷ []) ++ d)) st ∙ works m b (i_op o ∷ d) (fold m a ∷ st))
works m (e_not a) d st = rw append_assoc (works m a (i_not ∷ d) st)
works m (e_none a) d st = rw append_assoc (works m a (i_none ∷ d) st)
works m (e_if a b c) d st = rw (append_assoc, append_assoc, append_assoc) (works m a (postfix b ++ (postfix c ++ (i_if ∷ d))) st ∙ (works m b (postfix c ++ (i_if ∷ d)) (fold m a ∷ st) ∙ works m c (i_if ∷ d) (fold m b ∷ (fold m a ∷ st))))

-- columns by other names
abbrev pub via : {B C A : Type 0} → (B → C) → Algebra C A → Algebra B A
via p m = record { a_num = m.a_num; a_word = m.a_word; a_null = m.a_null; a_col = λ x. m.a_col (p x); a_op = m.a_op; a_not = m.a_not; a_none = m.a_none; a_if = m.a_if; a_empty = m.a_empty }

one_via : {B C A : Type 0} (p : B → C) (m : Algebra C A) (i : Instr B) (st : List A) → run_one m (map_col p i) st ≡ run_one (via p m) i st
one_via p m (i_num n) st = refl
one_via p m (i_word n) st = refl
one_via p m (i_null t) st = refl
one_via p m (i_col x) st = refl
one_via p m (i_op o) st = refl
one_via p m i_not st = refl
one_via p m i_none st = refl
one_via p m i_if st = refl

work_via : {B C A : Type 0} (p : B → C) (m : Algebra C A) (c : List (Instr B)) (st : List A) → run m (each (map_col p) c) st ≡ run (via p m) c st
work_via p m [] st = refl
work_via p m (i ∷ c) st = ap (run m (each (map_col p) c)) (one_via p m i st) ∙ work_via p m c (run_one (via p m) i st)

pub result_fold : {A : Type 0} (m : Algebra ℕ A) (cs : List Col) (e : Expr) → result m (code_for cs e) ≡ fold (via (col_index cs) m) e
result_fold m cs e = ap (top m.a_empty) (work_via (col_index cs) m (postfix e) [] ∙ (ap (λ c. run (via (col_index cs) m) c []) (sym (append-nil (postfix e))) ∙ works (via (col_index cs) m) e [] []))

-- values
get_nil : (cs : List Col) (x : Bytes) → get cs [] x ≡ null
get_nil [] x = refl
get_nil (c ∷ cs) x = refl

pub at_index : (cs : List Col) (r : Row) (x : Bytes) → length r ≤ length cs → value_at r (col_index cs x) ≡ get cs r x
at_index cs [] x h = sym (get_nil cs x)
at_index [] (v ∷ r) x h = absurd (omega arith)
at_index (c ∷ cs) (v ∷ r) x h = elim (same_bytes c.name x) as (λ b. value_at (v ∷ r) (cond b 0 (suc (col_index cs x))) ≡ cond b v (get cs r x)) [ true ↦ refl | false ↦ at_index cs r x (omega arith) ]

fold_eval : (cs : List Col) (r : Row) (e : Expr) → length r ≤ length cs → fold (via (col_index cs) (row_algebra r)) e ≡ eval cs r e
fold_eval cs r (e_num n) h = refl
fold_eval cs r (e_word n) h = refl
fold_eval cs r (e_null t) h = refl
fold_eval cs r (e_col x) h = at_index cs r x h
fold_eval cs r (e_op o a b) h = ap₂ (apply_op o) (fold_eval cs r a h) (fold_eval cs r b h)
fold_eval cs r (e_not a) h = ap (λ v. of_truth (not3 (truth v))) (fold_eval cs r a h)
fold_eval cs r (e_none a) h = ap is_null (fold_eval cs r a h)
fold_eval cs r (e_if a b c) h = let p = fold_eval cs r a h in let q = fold_eval cs r b h in let s = fold_eval cs r c h in cc

pub result_eval : (cs : List Col) (r : Row) (e : Expr) → length r ≤ length cs → result (row_algebra r) (code_for cs e) ≡ eval cs r e
result_eval cs r e h = result_fold (row_algebra r) cs e ∙ fold_eval cs r e h

-- types
word_or : (t : Ty) → cond (is_word t) t_word t_num ≡ t
word_or t_num = refl
word_or t_word = refl

pub type_at_index : (bits width : ℕ) (cs : List Col) (x : Bytes) → WordColumns bits width cs → col_type_at bits width (col_index cs x) ≡ col_type cs x
type_at_index bits width cs x t =
    ⊎_elim
    (λ p. let l = p.3 in let w = t.wide in let b : ltb (col_index cs x) width ≡ true = grind (arith, nat_tests) in
    ap (λ b. cond b (some (cond (has bits (col_index cs x)) t_word t_num)) none) b ∙ (ap (λ b. some (cond b t_word t_num)) (t.words (col_index cs x) p.0 p.1) ∙ (ap some (word_or p.0.ty) ∙ sym p.2)))
    (λ p. let l = p.0 in let w = t.wide in let b : ltb (col_index cs x) width ≡ false = grind (arith, nat_tests) in
    ap (λ b. cond b (some (cond (has bits (col_index cs x)) t_word t_num)) none) b ∙ sym p.1)
    (index_found cs x)

module _ (f : ℕ → Option Ty) (cs : List Col) (h : (x : Bytes) → f (col_index cs x) ≡ col_type cs x) where
  fold_type : (e : Expr) → fold (via (col_index cs) (type_algebra f)) e ≡ type_of cs e
  fold_type (e_num n) = refl
  fold_type (e_word n) = refl
  fold_type (e_null t) = refl
  fold_type (e_col x) = h x
  fold_type (e_op o a b) = ap₂ (op_type o) (fold_type a) (fold_type b)
  fold_type (e_not a) = ap (λ s. expect_type s t_num (some t_num)) (fold_type a)
  fold_type (e_none a) = ap (λ s. and_then s (λ t. some t_num)) (fold_type a)
  fold_type (e_if a b c) = ap₂ (λ s t. expect_type s t_num t) (fold_type a) (ap₂ (λ s u. and_then s (λ t. expect_type u t (some t))) (fold_type b) (fold_type c))

pub result_type : (bits width : ℕ) (cs : List Col) (e : Expr) → WordColumns bits width cs → result (type_algebra (col_type_at bits width)) (code_for cs e) ≡ type_of cs e
result_type bits width cs e t = result_fold (type_algebra (col_type_at bits width)) cs e ∙ fold_type (col_type_at bits width) cs (λ x. type_at_index bits width cs x t) e
