-- The reading of an expression as a machine: a turn for each piece or frame.
use Rattle.std.proofs.Common.{◌≡◌, ℕ, ◌+◌, ◌≤◌, Bool, true, false, cond, List, [], ◌∷◌, codes, sym, refl, ap, ◌∙◌, arith}
use mathlib.Core.Option.{Option, some, none}
use Rattle.meaning.specs.Base.{map_or, Bytes, same_bytes}
use Rattle.meaning.specs.Values.{Op, Expr, e_null, e_op, e_not, e_none, e_if}
use Rattle.meaning.specs.Text.{Parsed, then_read, expect, head_piece, tail_pieces, at_end, read_type, level_op, comparison_op}
use Rattle.language_expressions.proofs.Bind.{cond_same, must_same}
use Rattle.language_expressions.proofs.Grammar.{Parser, atom}
use Rattle.language_expressions.proofs.Free.{Any, Level, Chained, any_is, compared_is, primary_is, chained_is, level_1, level_2, level_3, level_4, level_5, level_6}
use Rattle.language_expressions.specs.Machine.{chain_level, tighter}
use Rattle.language_expressions.specs.declared.machine.Level.{Level as Lv}
use Rattle.language_expressions.specs.declared.machine.Level.TheVariants.{If as l_if, Or as l_or, And as l_and, Not as l_not, Sum as l_sum, Product as l_product, Primary as l_primary}
use Rattle.language_expressions.specs.declared.machine.Chain.{Chain}
use Rattle.language_expressions.specs.declared.machine.Chain.TheVariants.{Ors, Ands, Sums, Products}

abbrev pub reader : Lv → Parser
reader l_if = Any
reader l_or = Level 1
reader l_and = Level 2
reader l_not = Level 3
reader l_sum = Level 4
reader l_product = Level 5
reader l_primary = Level 6

-- what is left to do when a reader comes back, with the parts that it waits with
pub data Frame : Type 0 where
  f_on : Chain → Frame
  f_op : Chain → Op → Expr → Frame
  f_cmp : Frame
  f_cmp2 : Op → Expr → Frame
  f_not : Frame
  f_rp : Frame
  f_rpn : Frame
  f_if1 : Frame
  f_if2 : Expr → Frame
  f_if3 : Expr → Expr → Frame

abbrev pub resume : List Frame → Expr → List Bytes → Option Expr
resume [] e l = at_end e l
resume (f_on c ∷ K) e l = then_read (Chained (chain_level c) e l) (λ a l1. resume K a l1)
resume (f_op c o a ∷ K) e l = then_read (Chained (chain_level c) (e_op o a e) l) (λ b l1. resume K b l1)
resume (f_cmp ∷ K) e l = map_or (comparison_op (head_piece l)) (resume K e l) (λ o. then_read (Level 4 (tail_pieces l)) (λ b l1. resume K (e_op o e b) l1))
resume (f_cmp2 o a ∷ K) e l = resume K (e_op o a e) l
resume (f_not ∷ K) e l = resume K (e_not e) l
resume (f_rp ∷ K) e l = expect (codes ")") l (λ l1. resume K e l1)
resume (f_rpn ∷ K) e l = expect (codes ")") l (λ l1. resume K (e_none e) l1)
resume (f_if1 ∷ K) e l = expect (codes "then") l (λ l1. then_read (Any l1) (λ b l2. expect (codes "else") l2 (λ l3. then_read (Any l3) (λ c l4. resume K (e_if e b c) l4))))
resume (f_if2 a ∷ K) e l = expect (codes "else") l (λ l1. then_read (Any l1) (λ c l2. resume K (e_if a e c) l2))
resume (f_if3 a b ∷ K) e l = resume K (e_if a b e) l

pub data St : Type 0 where
  want : Lv → List Bytes → List Frame → St
  have : Expr → List Bytes → List Frame → St

pub data Out : Type 0 where
  go : St → Out
  done : Expr → Out
  fail : Out

-- what a state comes to, by the definitions
abbrev pub comes : St → Option Expr
comes (want w l K) = then_read (reader w l) (λ e l1. resume K e l1)
comes (have e l K) = resume K e l

abbrev pub comes_out : Out → Option Expr
comes_out (go s) = comes s
comes_out (done e) = some e
comes_out fail = none

abbrev pub must_out : Bytes → List Bytes → (List Bytes → Out) → Out
must_out p [] k = fail
must_out p (x ∷ l) k = cond (same_bytes p x) (k l) fail

abbrev pub or_fail : {A : Type 0} → Option (Parsed A) → (A → List Bytes → Out) → Out
or_fail none k = fail
or_fail (some g) k = k g.value_read g.rest

abbrev pub step_small : List Bytes → List Frame → Out
step_small [] K = fail
step_small (p ∷ l) K =
    cond (same_bytes p (codes "(")) (go (want l_if l (f_rp ∷ K)))
    (cond (same_bytes p (codes "none")) (cond (same_bytes (head_piece l) (codes "(")) (go (want l_if (tail_pieces l) (f_rpn ∷ K))) (or_fail (read_type l) (λ t l1. go (have (e_null t) l1 K))))
    (or_fail (atom p l) (λ a l1. go (have a l1 K))))

abbrev pub step_want : Lv → List Bytes → List Frame → Out
step_want l_if l K = cond (same_bytes (head_piece l) (codes "if")) (go (want l_if (tail_pieces l) (f_if1 ∷ K))) (go (want l_or l K))
step_want l_or l K = go (want l_and l (f_on Ors ∷ K))
step_want l_and l K = go (want l_not l (f_on Ands ∷ K))
step_want l_not l K = cond (same_bytes (head_piece l) (codes "not")) (go (want l_not (tail_pieces l) (f_not ∷ K))) (go (want l_sum l (f_cmp ∷ K)))
step_want l_sum l K = go (want l_product l (f_on Sums ∷ K))
step_want l_product l K = go (want l_primary l (f_on Products ∷ K))
step_want l_primary l K = step_small l K

abbrev pub the_end : Expr → List Bytes → Out
the_end e [] = done e
the_end e (p ∷ l) = fail

abbrev pub step_have : List Frame → Expr → List Bytes → Out
step_have [] e l = the_end e l
step_have (f_on c ∷ K) e l = map_or (level_op (chain_level c) (head_piece l)) (go (have e l K)) (λ o. go (want (tighter c) (tail_pieces l) (f_op c o e ∷ K)))
step_have (f_op c o a ∷ K) e l = go (have (e_op o a e) l (f_on c ∷ K))
step_have (f_cmp ∷ K) e l = map_or (comparison_op (head_piece l)) (go (have e l K)) (λ o. go (want l_sum (tail_pieces l) (f_cmp2 o e ∷ K)))
step_have (f_cmp2 o a ∷ K) e l = go (have (e_op o a e) l K)
step_have (f_not ∷ K) e l = go (have (e_not e) l K)
step_have (f_rp ∷ K) e l = must_out (codes ")") l (λ l1. go (have e l1 K))
step_have (f_rpn ∷ K) e l = must_out (codes ")") l (λ l1. go (have (e_none e) l1 K))
step_have (f_if1 ∷ K) e l = must_out (codes "then") l (λ l1. go (want l_if l1 (f_if2 e ∷ K)))
step_have (f_if2 a ∷ K) e l = must_out (codes "else") l (λ l1. go (want l_if l1 (f_if3 a e ∷ K)))
step_have (f_if3 a b ∷ K) e l = go (have (e_if a b e) l K)

abbrev pub step : St → Out
step (want w l K) = step_want w l K
step (have e l K) = step_have K e l

-- the parts of a step, through 'comes_out'
out_cond : (b : Bool) (x y : Out) → comes_out (cond b x y) ≡ cond b (comes_out x) (comes_out y)
out_cond true x y = refl
out_cond false x y = refl

out_or : {A : Type 0} (r : Option (Parsed A)) (k : A → List Bytes → Out) → comes_out (or_fail r k) ≡ then_read r (λ a l. comes_out (k a l))
out_or none k = refl
out_or (some g) k = refl

-- and through 'then_read'
with_with : {A C D : Type 0} (r : Option (Parsed A)) (f : A → List Bytes → Option (Parsed C)) (k : C → List Bytes → Option D) → then_read (then_read r f) k ≡ then_read r (λ a l. then_read (f a l) k)
with_with none f k = refl
with_with (some g) f k = refl

with_cond : {C D : Type 0} (b : Bool) (x y : Option (Parsed C)) (k : C → List Bytes → Option D) → then_read (cond b x y) k ≡ cond b (then_read x k) (then_read y k)
with_cond true x y k = refl
with_cond false x y k = refl

with_must_out : {C D : Type 0} (p : Bytes) (l : List Bytes) (f : List Bytes → Option (Parsed C)) (k : C → List Bytes → Option D) → then_read (expect p l f) k ≡ expect p l (λ l1. then_read (f l1) k)
with_must_out p [] f k = refl
with_must_out p (x ∷ l) f k = with_cond (same_bytes p x) (f l) none k

with_same : {A C : Type 0} (r : Option (Parsed A)) (k k' : A → List Bytes → Option C) → ((a : A) (l : List Bytes) → k a l ≡ k' a l) → then_read r k ≡ then_read r k'
with_same none k k' f = refl
with_same (some g) k k' f = f g.value_read g.rest

-- a step changes nothing of what a state comes to
right_if : (l : List Bytes) (K : List Frame) → comes (want l_if l K) ≡ comes_out (step_want l_if l K)
right_if l K = ap (λ r. then_read r k) (any_is l) ∙ (with_cond (same_bytes (head_piece l) (codes "if")) _ (Level 1 l) k ∙ (cond_same (same_bytes (head_piece l) (codes "if")) _ _ _ _
    (λ e. with_with (Any (tail_pieces l)) _ k ∙ with_same (Any (tail_pieces l)) _ _ (λ a l1. with_must_out (codes "then") l1 _ k ∙ must_same (codes "then") l1 _ _ (λ l2 h2. with_with (Any l2) _ k ∙ with_same (Any l2) _ _ (λ b l3. with_must_out (codes "else") l3 _ k ∙ must_same (codes "else") l3 _ _ (λ l4 h4. with_with (Any l4) _ k)))))
    (λ e. refl)
    ∙ sym (out_cond (same_bytes (head_piece l) (codes "if")) (go (want l_if (tail_pieces l) (f_if1 ∷ K))) (go (want l_or l K)))))
  where
    k : Expr → List Bytes → Option Expr
    k e l1 = resume K e l1

right_not : (l : List Bytes) (K : List Frame) → comes (want l_not l K) ≡ comes_out (step_want l_not l K)
right_not l K = grind (arith, level_3 l, compared_is l, level_3 (tail_pieces l))

right_small : (l : List Bytes) (K : List Frame) → comes (want l_primary l K) ≡ comes_out (step_small l K)
right_small [] K = ap (λ r. then_read r (λ e l1. resume K e l1)) (level_6 [] ∙ primary_is [])
right_small (p ∷ l) K = ap (λ r. then_read r k) (level_6 (p ∷ l) ∙ primary_is (p ∷ l)) ∙ (with_cond (same_bytes p (codes "(")) _ _ k ∙ (cond_same (same_bytes p (codes "(")) _ _ _ _
    (λ e. with_with (Any l) _ k ∙ with_same (Any l) _ _ (λ a l1. with_must_out (codes ")") l1 _ k))
    (λ e. with_cond (same_bytes p (codes "none")) _ _ k ∙ (cond_same (same_bytes p (codes "none")) _ _ _ _
    (λ d. with_cond (same_bytes (head_piece l) (codes "(")) _ _ k ∙ (cond_same (same_bytes (head_piece l) (codes "(")) _ _ _ _
    (λ c. with_with (Any (tail_pieces l)) _ k ∙ with_same (Any (tail_pieces l)) _ _ (λ a l1. with_must_out (codes ")") l1 _ k))
    (λ c. with_with (read_type l) _ k ∙ sym (out_or (read_type l) (λ t l1. go (have (e_null t) l1 K))))
    ∙ sym (out_cond (same_bytes (head_piece l) (codes "(")) _ _)))
    (λ d. sym (out_or (atom p l) (λ a l1. go (have a l1 K))))
    ∙ sym (out_cond (same_bytes p (codes "none")) _ _)))
    ∙ sym (out_cond (same_bytes p (codes "(")) _ _)))
  where
    k : Expr → List Bytes → Option Expr
    k e l1 = resume K e l1

right_want : (w : Lv) (l : List Bytes) (K : List Frame) → comes (want w l K) ≡ comes_out (step_want w l K)
right_want l_if l K = right_if l K
right_want l_or l K = grind (arith, level_1 l)
right_want l_and l K = grind (arith, level_2 l)
right_want l_not l K = right_not l K
right_want l_sum l K = grind (arith, level_4 l)
right_want l_product l K = grind (arith, level_5 l)
right_want l_primary l K = right_small l K

next_is : (c : Chain) (l : List Bytes) → Level (chain_level c + 1) l ≡ reader (tighter c) l
next_is Ors l = refl
next_is Ands l = refl
next_is Sums l = refl
next_is Products l = refl

low : (c : Chain) → chain_level c ≤ 5
low Ors = omega arith
low Ands = omega arith
low Sums = omega arith
low Products = omega arith

right_on : (c : Chain) (e : Expr) (l : List Bytes) (K : List Frame) → comes (have e l (f_on c ∷ K)) ≡ comes_out (step_have (f_on c ∷ K) e l)
right_on c e l K = grind (arith, chained_is (chain_level c) e l (low c), next_is c (tail_pieces l))

right_have : (K : List Frame) (e : Expr) (l : List Bytes) → resume K e l ≡ comes_out (step_have K e l)
right_have [] e [] = refl
right_have [] e (p ∷ l) = refl
right_have (f_on c ∷ K) e l = right_on c e l K
right_have (f_op c o a ∷ K) e l = refl
right_have (f_cmp ∷ K) e l = grind arith
right_have (f_cmp2 o a ∷ K) e l = refl
right_have (f_not ∷ K) e l = refl
right_have (f_rp ∷ K) e [] = refl
right_have (f_rp ∷ K) e (p ∷ l) = grind arith
right_have (f_rpn ∷ K) e [] = refl
right_have (f_rpn ∷ K) e (p ∷ l) = grind arith
right_have (f_if1 ∷ K) e [] = refl
right_have (f_if1 ∷ K) e (p ∷ l) = grind arith
right_have (f_if2 a ∷ K) e [] = refl
right_have (f_if2 a ∷ K) e (p ∷ l) = grind arith
right_have (f_if3 a b ∷ K) e l = refl

pub step_right : (s : St) → comes s ≡ comes_out (step s)
step_right (want w l K) = right_want w l K
step_right (have e l K) = right_have K e l

-- each step consumes a piece or pops a frame: so many steps there are at most for an operand of a level
abbrev pub weight : Lv → ℕ
weight l_if = 12
weight l_or = 11
weight l_and = 9
weight l_not = 7
weight l_sum = 5
weight l_product = 3
weight l_primary = 1
