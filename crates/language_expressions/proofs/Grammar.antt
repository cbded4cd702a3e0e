-- The grammar without its bound: each reader's body over the readers that it calls; what is left is shorter; the bound is enough.
use Rattle.std.proofs.Common.{◌≡◌, ℕ, zero, suc, ◌+◌, ◌-◌, ◌*◌, ◌<◌, ◌≤◌, cond, eqb, List, [], ◌∷◌, length, codes, refl, arith}
use mathlib.Core.Option.{Option, none}
use Rattle.meaning.specs.Base.{map_or, Bytes, same_bytes}
use Rattle.meaning.specs.Values.{Expr, e_num, e_word, e_null, e_col, e_op, e_not, e_none, e_if}
use Rattle.meaning.specs.Text.{Parsed, parsed, then_read, expect, head_piece, tail_pieces, read_type, as_number, as_word, is_name, level_op, comparison_op, expression, at_level, comparison_at, op_chain, primary}
use Rattle.language_expressions.proofs.Bind.{Short, cond_ind, bind_short, must_short, opt_ind, after_less}

abbrev pub R : Type 0
R = Option (Parsed Expr)

abbrev pub Parser : Type 0
Parser = List Bytes → R

abbrev pub BExpr : Parser → Parser → Parser
BExpr ex lv line = cond (same_bytes (head_piece line) (codes "if")) (then_read (ex (tail_pieces line)) (λ a line1. expect (codes "then") line1 (λ line2. then_read (ex line2) (λ b line3. expect (codes "else") line3 (λ line4. then_read (ex line4) (λ c line5. parsed (e_if a b c) line5)))))) (lv line)

abbrev pub BCmp : Parser → Parser → Parser
BCmp cm l4 line = cond (same_bytes (head_piece line) (codes "not")) (then_read (cm (tail_pieces line)) (λ a line1. parsed (e_not a) line1)) (then_read (l4 line) (λ a line1. map_or (comparison_op (head_piece line1)) (parsed a line1) (λ o. then_read (l4 (tail_pieces line1)) (λ b line2. parsed (e_op o a b) line2))))

abbrev pub BOn : ℕ → Parser → (Expr → Parser) → Expr → Parser
BOn lev nx on a line = map_or (level_op lev (head_piece line)) (parsed a line) (λ o. then_read (nx (tail_pieces line)) (λ b line1. on (e_op o a b) line1))

abbrev pub BLev : ℕ → Parser → Parser → Parser → (Expr → Parser) → Parser
BLev lev sm cm nx on line = cond (eqb lev 6) (sm line) (cond (eqb lev 3) (cm line) (then_read (nx line) (λ a line1. on a line1)))

abbrev pub atom : Bytes → Parser
atom piece line = map_or (as_number piece) (map_or (as_word piece) (cond (is_name piece) (parsed (e_col piece) line) none) (λ n. parsed (e_word n) line)) (λ n. parsed (e_num n) line)

abbrev pub BSmall : Parser → Parser
BSmall ex [] = none
BSmall ex (piece ∷ line) =
    cond (same_bytes piece (codes "(")) (then_read (ex line) (λ a line1. expect (codes ")") line1 (λ line2. parsed a line2)))
    (cond (same_bytes piece (codes "none")) (cond (same_bytes (head_piece line) (codes "(")) (then_read (ex (tail_pieces line)) (λ a line1. expect (codes ")") line1 (λ line2. parsed (e_none a) line2))) (then_read (read_type line) (λ t line1. parsed (e_null t) line1)))
    (atom piece line))

-- what is left is shorter
abbrev pub Shortens : Parser → Type 0
Shortens r = (l : List Bytes) → Short (length l) (r l)

abbrev pub Keeps : (Expr → Parser) → Type 0
Keeps r = (a : Expr) (l : List Bytes) → Short (suc (length l)) (r a l)

bs_expr : (ex lv : Parser) (line : List Bytes) → Shortens ex → Short (length line) (lv line) → Short (length line) (BExpr ex lv line)
bs_expr ex lv line h k = cond_ind (λ (o : R). Short (length line) o) (same_bytes (head_piece line) (codes "if")) _ _
    (λ e. let a0 : length (tail_pieces line) < length line = after_less line _ _ e in
    bind_short (ex (tail_pieces line)) _ (length (tail_pieces line)) (length line) (h (tail_pieces line)) (λ a l1 b1. must_short (codes "then") l1 _ (length line) (λ l2 b2. bind_short (ex l2) _ (length l2) (length line) (h l2) (λ b l3 b3. must_short (codes "else") l3 _ (length line) (λ l4 b4. bind_short (ex l4) _ (length l4) (length line) (h l4) (λ c l5 b5. omega arith))))))
    (λ e. k)

bs_cmp : (cm l4 : Parser) (line : List Bytes) → Shortens cm → Shortens l4 → Short (length line) (BCmp cm l4 line)
bs_cmp cm l4 [] h k = grind (arith, h, k)
bs_cmp cm l4 (p ∷ line) h k = grind (arith, h, k)

bs_on : (lev : ℕ) (nx : Parser) (on : Expr → Parser) (a : Expr) (line : List Bytes) → Shortens nx → Keeps on → Short (suc (length line)) (BOn lev nx on a line)
bs_on lev nx on a [] h k = grind (arith, h, k)
bs_on lev nx on a (p ∷ line) h k = grind (arith, h, k)

bs_lev : (lev : ℕ) (sm cm nx : Parser) (on : Expr → Parser) (line : List Bytes) → Shortens sm → Shortens cm → Shortens nx → Keeps on → Short (length line) (BLev lev sm cm nx on line)
bs_lev lev sm cm nx on line h1 h2 h3 k = grind (arith, h1 line, h2 line, h3 line, k)

pub type_short : (l : List Bytes) → Short (length l) (read_type l)
type_short [] = tt
type_short (x ∷ l) = grind arith

pub atom_short : (p : Bytes) (l : List Bytes) → Short (suc (length l)) (atom p l)
atom_short p l = opt_ind (λ (o : R). Short (suc (length l)) o) (as_number p) _ _ (λ e. opt_ind (λ (o : R). Short (suc (length l)) o) (as_word p) _ _ (λ d. cond_ind (λ (o : R). Short (suc (length l)) o) (is_name p) _ _ (λ c. omega arith) (λ c. tt)) (λ n d. omega arith)) (λ n e. omega arith)

bs_small : (ex : Parser) (line : List Bytes) → Shortens ex → Short (length line) (BSmall ex line)
bs_small ex [] h = tt
bs_small ex (p ∷ l) h = cond_ind P (same_bytes p (codes "(")) _ _
    (λ e. bind_short (ex l) _ (length l) (suc (length l)) (h l) (λ a l1 b1. must_short (codes ")") l1 _ (suc (length l)) (λ l2 b2. omega arith)))
    (λ e. cond_ind P (same_bytes p (codes "none")) _ _
    (λ d. cond_ind P (same_bytes (head_piece l) (codes "(")) _ _
    (λ c. let a0 : length (tail_pieces l) < length l = after_less l _ _ c in bind_short (ex (tail_pieces l)) _ (length (tail_pieces l)) (suc (length l)) (h (tail_pieces l)) (λ a l1 b1. must_short (codes ")") l1 _ (suc (length l)) (λ l2 b2. omega arith)))
    (λ c. bind_short (read_type l) _ (length l) (suc (length l)) (type_short l) (λ t l1 b1. omega arith)))
    (λ d. atom_short p l))
  where
    P : R → Type 0
    P o = Short (suc (length l)) o

sm : (f : ℕ) (line : List Bytes) → Shortens (expression f) → Short (length line) (primary (suc f) line)
sm f [] h = tt
sm f (p ∷ l) h = bs_small (expression f) (p ∷ l) h

mutual
  pub sh_expr : (f : ℕ) (line : List Bytes) → Short (length line) (expression f line)
  sh_expr zero line = tt
  sh_expr (suc f) line = bs_expr (expression f) (at_level f 1) line (sh_expr f) (sh_lev f 1 line)

  pub sh_lev : (f lev : ℕ) (line : List Bytes) → Short (length line) (at_level f lev line)
  sh_lev zero lev line = tt
  sh_lev (suc f) lev line = bs_lev lev (primary f) (comparison_at f) (at_level f (lev + 1)) (op_chain f lev) line (sh_small f) (sh_cmp f) (sh_lev f (lev + 1)) (sh_on f lev)

  pub sh_cmp : (f : ℕ) (line : List Bytes) → Short (length line) (comparison_at f line)
  sh_cmp zero line = tt
  sh_cmp (suc f) line = bs_cmp (comparison_at f) (at_level f 4) line (sh_cmp f) (sh_lev f 4)

  pub sh_on : (f lev : ℕ) (a : Expr) (line : List Bytes) → Short (suc (length line)) (op_chain f lev a line)
  sh_on zero lev a line = tt
  sh_on (suc f) lev a line = bs_on lev (at_level f (lev + 1)) (op_chain f lev) a line (sh_lev f (lev + 1)) (sh_on f lev)

  pub sh_small : (f : ℕ) (line : List Bytes) → Short (length line) (primary f line)
  sh_small zero line = tt
  sh_small (suc f) line = sm f line (sh_expr f)

-- equal readers on what is shorter make equal bodies
abbrev pub Below : ℕ → Parser → Parser → Type 0
Below n r s = (l : List Bytes) → length l < n → r l ≡ s l

pub bc_expr : (ex ex' lv lv' : Parser) (line : List Bytes) → Shortens ex → Below (length line) ex ex' → lv line ≡ lv' line → BExpr ex lv line ≡ BExpr ex' lv' line
bc_expr ex ex' lv lv' [] h q k = grind (arith, h, q)
bc_expr ex ex' lv lv' (p ∷ line) h q k = grind (arith, h, q)

pub bc_cmp : (cm cm' l4 l4' : Parser) (line : List Bytes) → Shortens cm → Below (length line) cm cm' → Shortens l4 → Below (suc (length line)) l4 l4' → BCmp cm l4 line ≡ BCmp cm' l4' line
bc_cmp cm cm' l4 l4' line h q k r = grind (arith, h, q, k, r)

pub bc_on : (lev : ℕ) (nx nx' : Parser) (on on' : Expr → Parser) (a : Expr) (line : List Bytes) → Shortens nx → Below (length line) nx nx' → ((b : Expr) → Below (length line) (on b) (on' b)) → BOn lev nx on a line ≡ BOn lev nx' on' a line
bc_on lev nx nx' on on' a [] h q k = grind (arith, h, q, k)
bc_on lev nx nx' on on' a (p ∷ line) h q k = grind (arith, h, q, k)

pub bc_lev : (lev : ℕ) (sm sm' cm cm' nx nx' : Parser) (on on' : Expr → Parser) (line : List Bytes) → (lev ≡ 6 → sm line ≡ sm' line) → (lev ≡ 3 → cm line ≡ cm' line) → (¬ (lev ≡ 6) → ¬ (lev ≡ 3) → nx line ≡ nx' line) → Shortens nx → (¬ (lev ≡ 6) → (b : Expr) → Below (length line) (on b) (on' b)) → BLev lev sm cm nx on line ≡ BLev lev sm' cm' nx' on' line
bc_lev lev sm sm' cm cm' nx nx' on on' line h1 h2 h3 k q = grind (arith, h1, h2, h3, k, q)

pub bc_small : (ex ex' : Parser) (line : List Bytes) → Shortens ex → Below (length line) ex ex' → BSmall ex line ≡ BSmall ex' line
bc_small ex ex' [] h q = refl
bc_small ex ex' (p ∷ []) h q = grind (arith, q [])
bc_small ex ex' (p ∷ (x ∷ l)) h q = grind (arith, q (x ∷ l), q l)

-- enough is enough: what each reader wants for a line
abbrev pub enough : ℕ → List Bytes → ℕ
enough rank line = 16 * length line + rank

abbrev pub rank : ℕ → ℕ
rank lev = 2 * (7 - lev)

pub s_small : (f g : ℕ) (line : List Bytes) → Shortens (expression f) → Below (length line) (expression f) (expression g) → primary (suc f) line ≡ primary (suc g) line
s_small f g [] h q = refl
s_small f g (p ∷ l) h q = bc_small (expression f) (expression g) (p ∷ l) h q

mutual
  pub st_expr : (f g : ℕ) (line : List Bytes) → enough 13 line ≤ f → enough 13 line ≤ g → expression f line ≡ expression g line
  st_expr zero g line p q = absurd (omega arith)
  st_expr (suc f) zero line p q = absurd (omega arith)
  st_expr (suc f) (suc g) line p q = bc_expr (expression f) (expression g) (at_level f 1) (at_level g 1) line (sh_expr f) (λ l b. st_expr f g l (omega arith) (omega arith)) (st_lev f g 1 line (omega arith) (omega arith) (omega arith))

  pub st_lev : (f g lev : ℕ) (line : List Bytes) → lev ≤ 6 → enough (rank lev) line ≤ f → enough (rank lev) line ≤ g → at_level f lev line ≡ at_level g lev line
  st_lev zero g lev line i p q = absurd (omega arith)
  st_lev (suc f) zero lev line i p q = absurd (omega arith)
  st_lev (suc f) (suc g) lev line i p q = bc_lev lev (primary f) (primary g) (comparison_at f) (comparison_at g) (at_level f (lev + 1)) (at_level g (lev + 1)) (op_chain f lev) (op_chain g lev) line (λ e. st_small f g line (omega arith) (omega arith)) (λ e. st_cmp f g line (omega arith) (omega arith)) (λ n6 n3. st_lev f g (lev + 1) line (omega arith) (omega arith) (omega arith)) (sh_lev f (lev + 1)) (λ n6 b l h. st_on f g lev b l (omega arith) (omega arith) (omega arith))

  pub st_cmp : (f g : ℕ) (line : List Bytes) → enough 7 line ≤ f → enough 7 line ≤ g → comparison_at f line ≡ comparison_at g line
  st_cmp zero g line p q = absurd (omega arith)
  st_cmp (suc f) zero line p q = absurd (omega arith)
  st_cmp (suc f) (suc g) line p q = bc_cmp (comparison_at f) (comparison_at g) (at_level f 4) (at_level g 4) line (sh_cmp f) (λ l b. st_cmp f g l (omega arith) (omega arith)) (sh_lev f 4) (λ l b. st_lev f g 4 l (omega arith) (omega arith) (omega arith))

  pub st_on : (f g lev : ℕ) (a : Expr) (line : List Bytes) → lev ≤ 5 → enough 1 line ≤ f → enough 1 line ≤ g → op_chain f lev a line ≡ op_chain g lev a line
  st_on zero g lev a line i p q = absurd (omega arith)
  st_on (suc f) zero lev a line i p q = absurd (omega arith)
  st_on (suc f) (suc g) lev a line i p q = bc_on lev (at_level f (lev + 1)) (at_level g (lev + 1)) (op_chain f lev) (op_chain g lev) a line (sh_lev f (lev + 1)) (λ l b. st_lev f g (lev + 1) l (omega arith) (omega arith) (omega arith)) (λ b l h. st_on f g lev b l (omega arith) (omega arith) (omega arith))

  pub st_small : (f g : ℕ) (line : List Bytes) → enough 1 line ≤ f → enough 1 line ≤ g → primary f line ≡ primary g line
  st_small zero g line p q = absurd (omega arith)
  st_small (suc f) zero line p q = absurd (omega arith)
  st_small (suc f) (suc g) line p q = s_small f g line (sh_expr f) (λ l b. st_expr f g l (omega arith) (omega arith))
