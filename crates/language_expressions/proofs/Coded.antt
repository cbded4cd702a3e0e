-- The machine as the engine has it: frames hold no expressions, the code of what is read grows behind.
use Rattle.std.proofs.Common.{◌≡◌, ℕ, Bool, true, false, cond, List, [], ◌∷◌, ◌++◌, codes, sym, refl, ap, ◌∙◌, append_assoc, append-nil, arith}
use mathlib.Core.Option.{Option, some, none}
use Rattle.meaning.specs.Base.{map_or, each, Bytes, same_bytes}
use Rattle.meaning.specs.Values.{t_num, t_word, Op, op_arith, op_compare, op_logic, op_add, op_sub, op_mul, op_div, op_rem, op_eq, op_ne, op_lt, op_le, op_and, op_or, Expr, e_num, e_word, e_null, e_col}
use Rattle.meaning.specs.Text.{parsed, head_piece, tail_pieces, read_type, as_number, as_word, is_name}
use Rattle.language_expressions.proofs.Bind.{cond_same}
use Rattle.language_expressions.proofs.Grammar.{atom}
use Rattle.language_pieces.proofs.Same.{same_turned}
use Rattle.values.specs.Types.{op_of}
use Rattle.code.specs.Postfix.{Instr, i_num, i_word, i_null, i_col, postfix}
use Rattle.language_expressions.specs.Machine.{operator, State, wants, has, Outcome, goes_on, comes_to, fails, leaf, primary_turn, operand_turn, operator_turn, turn}
use Rattle.language_expressions.specs.declared.machine.Level.{Level as Lv}
use Rattle.language_expressions.specs.declared.machine.Level.TheVariants.{If as l_if, Or as l_or, And as l_and, Not as l_not, Sum as l_sum, Product as l_product, Primary as l_primary}
use Rattle.language_expressions.specs.declared.machine.Mark.{Mark}
use Rattle.language_expressions.specs.declared.machine.Mark.TheVariants.{Chain as m_chain, Applied as m_applied, Comparison as m_comparison, Compared as m_compared, Not as m_not, Paren as m_paren, NoneParen as m_none, Then as m_then, Else as m_else, End as m_end}
use Rattle.language_expressions.proofs.Frames.{Frame, f_on, f_op, f_cmp, f_cmp2, f_not, f_rp, f_rpn, f_if1, f_if2, f_if3, St, want, have, Out, go, done, fail, or_fail, step_small, step_want, step_have, step}

-- how a state looks there
abbrev pub mark : Frame → Mark
mark (f_on c) = m_chain c
mark (f_op c o a) = m_applied c (operator o)
mark f_cmp = m_comparison
mark (f_cmp2 o a) = m_compared (operator o)
mark f_not = m_not
mark f_rp = m_paren
mark f_rpn = m_none
mark f_if1 = m_then
mark (f_if2 a) = m_else
mark (f_if3 a b) = m_end

abbrev pub held1 : Frame → List (Instr Bytes)
held1 (f_on c) = []
held1 (f_op c o a) = postfix a
held1 f_cmp = []
held1 (f_cmp2 o a) = postfix a
held1 f_not = []
held1 f_rp = []
held1 f_rpn = []
held1 f_if1 = []
held1 (f_if2 a) = postfix a
held1 (f_if3 a b) = postfix a ++ postfix b

-- the code's operators are those of the definitions
pub meant : (o : Op) → op_of (operator o) ≡ o
meant (op_arith op_add) = refl
meant (op_arith op_sub) = refl
meant (op_arith op_mul) = refl
meant (op_arith op_div) = refl
meant (op_arith op_rem) = refl
meant (op_compare op_eq) = refl
meant (op_compare op_ne) = refl
meant (op_compare op_lt) = refl
meant (op_compare op_le) = refl
meant (op_logic op_and) = refl
meant (op_logic op_or) = refl

-- behind code that is there already
module _ (before : List (Instr Bytes)) where
  abbrev pub held : List Frame → List (Instr Bytes)
  held [] = before
  held (f ∷ K) = held K ++ held1 f

  abbrev pub seen : St → State
  seen (want w l K) = wants w l (each mark K) (held K)
  seen (have e l K) = has l (each mark K) (held K ++ postfix e)

  abbrev pub seen_out : Out → Outcome
  seen_out (go s) = goes_on (seen s)
  seen_out (done e) = comes_to (before ++ postfix e)
  seen_out fail = fails

  seen_cond : (b : Bool) (x y : Out) → seen_out (cond b x y) ≡ cond b (seen_out x) (seen_out y)
  seen_cond true x y = refl
  seen_cond false x y = refl

  nil : (K : List Frame) → held K ++ [] ≡ held K
  nil K = append-nil (held K)

  on_reads : (w : Lv) (l : List Bytes) (M : List Mark) (c d : List (Instr Bytes)) → c ≡ d → goes_on (wants w l M c) ≡ goes_on (wants w l M d)
  on_reads w l M c d h = ap (λ x. goes_on (wants w l M x)) h

  same_leaf : (p : Bytes) (l : List Bytes) (K : List Frame) → seen_out (or_fail (atom p l) (λ a l1. go (have a l1 K))) ≡ map_or (leaf p) fails (λ i. goes_on (has l (each mark K) (held K ++ (i ∷ []))))
  same_leaf p l K = by (as_number p) (as_word p) (is_name p)
    where
      by : (n w : Option ℕ) (b : Bool) → seen_out (or_fail (map_or n (map_or w (cond b (parsed (e_col p) l) none) (λ v. parsed (e_word v) l)) (λ v. parsed (e_num v) l)) (λ a l1. go (have a l1 K))) ≡ map_or (map_or n (map_or w (cond b (some (i_col p)) none) (λ v. some (i_word v))) (λ v. some (i_num v))) fails (λ i. goes_on (has l (each mark K) (held K ++ (i ∷ []))))
      by none none true = refl
      by none none false = refl
      by none (some w) b = refl
      by (some n) w b = refl

  same_type : (l : List Bytes) (K : List Frame) → seen_out (or_fail (read_type l) (λ t l1. go (have (e_null t) l1 K))) ≡ cond (same_bytes (head_piece l) (codes "num")) (goes_on (has (tail_pieces l) (each mark K) (held K ++ (i_null t_num ∷ [])))) (cond (same_bytes (head_piece l) (codes "word")) (goes_on (has (tail_pieces l) (each mark K) (held K ++ (i_null t_word ∷ [])))) fails)
  same_type [] K = refl
  same_type (x ∷ l) K = grind arith

  same_small : (l : List Bytes) (K : List Frame) → seen_out (step_small l K) ≡ primary_turn l (each mark K) (held K)
  same_small [] K = refl
  same_small (p ∷ l) K = seen_cond (same_bytes p (codes "(")) _ _ ∙ cond_same (same_bytes p (codes "(")) _ _ _ _
      (λ e. on_reads l_if l _ _ _ (nil K))
      (λ e. seen_cond (same_bytes p (codes "none")) _ _ ∙ cond_same (same_bytes p (codes "none")) _ _ _ _
      (λ d. seen_cond (same_bytes (head_piece l) (codes "(")) _ _ ∙ cond_same (same_bytes (head_piece l) (codes "(")) _ _ _ _ (λ c. on_reads l_if (tail_pieces l) _ _ _ (nil K)) (λ c. same_type l K))
      (λ d. same_leaf p l K))

  same_want : (w : Lv) (l : List Bytes) (K : List Frame) → seen_out (step_want w l K) ≡ operand_turn w l (each mark K) (held K)
  same_want l_if l K = grind (arith, append-nil)
  same_want l_or l K = grind (arith, append-nil)
  same_want l_and l K = grind (arith, append-nil)
  same_want l_not l K = grind (arith, append-nil)
  same_want l_sum l K = grind (arith, append-nil)
  same_want l_product l K = grind (arith, append-nil)
  same_want l_primary l K = same_small l K

  same_have : (K : List Frame) (e : Expr) (l : List Bytes) → seen_out (step_have K e l) ≡ operator_turn (each mark K) l (held K ++ postfix e)
  same_have [] e [] = refl
  same_have [] e (p ∷ l) = refl
  same_have (f ∷ K) e [] = grind (arith, append-nil, append_assoc, meant)
  same_have (f ∷ K) e (p ∷ l) = grind (arith, append-nil, append_assoc, meant, same_turned)

  pub same_turn : (s : St) → turn (seen s) ≡ seen_out (step s)
  same_turn (want w l K) = sym (same_want w l K)
  same_turn (have e l K) = sym (same_have K e l)
