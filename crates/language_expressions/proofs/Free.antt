-- The readers without a bound, and the equations that they meet.
use Rattle.std.proofs.Common.{◌≡◌, ℕ, suc, ◌+◌, ◌≤◌, List, [], ◌∷◌, length, refl, ◌∙◌, arith}
use Rattle.meaning.specs.Base.{Bytes}
use Rattle.meaning.specs.Values.{Expr}
use Rattle.meaning.specs.Text.{then_read, expression, at_level, comparison_at, op_chain, primary, fuel}
use Rattle.language_expressions.proofs.Bind.{bind_same}
use Rattle.language_expressions.proofs.Grammar.{Parser, BExpr, BCmp, BOn, BSmall, bc_expr, bc_cmp, bc_on, bc_small, sh_expr, sh_lev, sh_cmp, st_expr, st_lev, st_cmp, st_on, st_small}

unfoldable pub Any : Parser
Any line = expression (fuel line) line

unfoldable pub Level : ℕ → Parser
Level lev line = at_level (fuel line) lev line

unfoldable pub Compared : Parser
Compared line = comparison_at (fuel line) line

unfoldable pub Chained : ℕ → Expr → Parser
Chained lev a line = op_chain (fuel line) lev a line

unfoldable pub Primary : Parser
Primary line = primary (fuel line) line

pub any_is : (line : List Bytes) → Any line ≡ BExpr Any (Level 1) line
unfolding Any Level
any_is line = st_expr (fuel line) (suc (fuel line)) line (omega arith) (omega arith) ∙ bc_expr (expression (fuel line)) Any (at_level (fuel line) 1) (Level 1) line (sh_expr (fuel line)) (λ l b. st_expr (fuel line) (fuel l) l (omega arith) (omega arith)) refl

pub compared_is : (line : List Bytes) → Compared line ≡ BCmp Compared (Level 4) line
unfolding Compared Level
compared_is line = st_cmp (fuel line) (suc (fuel line)) line (omega arith) (omega arith) ∙ bc_cmp (comparison_at (fuel line)) Compared (at_level (fuel line) 4) (Level 4) line (sh_cmp (fuel line)) (λ l b. st_cmp (fuel line) (fuel l) l (omega arith) (omega arith)) (sh_lev (fuel line) 4) (λ l b. st_lev (fuel line) (fuel l) 4 l (omega arith) (omega arith) (omega arith))

pub primary_is : (line : List Bytes) → Primary line ≡ BSmall Any line
unfolding Primary Any
primary_is [] = st_small (fuel []) 33 [] (omega arith) (omega arith)
primary_is (p ∷ l) = st_small (fuel (p ∷ l)) (suc (fuel (p ∷ l))) (p ∷ l) (omega arith) (omega arith) ∙ bc_small (expression (fuel (p ∷ l))) Any (p ∷ l) (sh_expr (fuel (p ∷ l))) (λ m b. st_expr (fuel (p ∷ l)) (fuel m) m (omega arith) (omega arith))

pub chained_is : (lev : ℕ) (a : Expr) (line : List Bytes) → lev ≤ 5 → Chained lev a line ≡ BOn lev (Level (lev + 1)) (Chained lev) a line
unfolding Chained Level
chained_is lev a line i = st_on (fuel line) (suc (fuel line)) lev a line i (omega arith) (omega arith) ∙ bc_on lev (at_level (fuel line) (lev + 1)) (Level (lev + 1)) (op_chain (fuel line) lev) (Chained lev) a line (sh_lev (fuel line) (lev + 1)) (λ l b. st_lev (fuel line) (fuel l) (lev + 1) l (omega arith) (omega arith) (omega arith)) (λ b l h. st_on (fuel line) (fuel l) lev b l i (omega arith) (omega arith))

pub level_6 : (line : List Bytes) → Level 6 line ≡ Primary line
unfolding Level Primary
level_6 line = st_lev (fuel line) (suc (fuel line)) 6 line (omega arith) (omega arith) (omega arith)

pub level_3 : (line : List Bytes) → Level 3 line ≡ Compared line
unfolding Level Compared
level_3 line = st_lev (fuel line) (suc (fuel line)) 3 line (omega arith) (omega arith) (omega arith)

on_same : (line : List Bytes) (lev : ℕ) → lev ≤ 5 → then_read (at_level (fuel line) (lev + 1) line) (λ a l. op_chain (fuel line) lev a l) ≡ then_read (Level (lev + 1) line) (Chained lev)
unfolding Level Chained
on_same line lev i = bind_same (at_level (fuel line) (lev + 1) line) (Level (lev + 1) line) _ _ (length line) refl (sh_lev (fuel line) (lev + 1) line) (λ a l b. st_on (fuel line) (fuel l) lev a l i (omega arith) (omega arith))

pub level_1 : (line : List Bytes) → Level 1 line ≡ then_read (Level 2 line) (Chained 1)
unfolding Level
level_1 line = st_lev (fuel line) (suc (fuel line)) 1 line (omega arith) (omega arith) (omega arith) ∙ on_same line 1 (omega arith)

pub level_2 : (line : List Bytes) → Level 2 line ≡ then_read (Level 3 line) (Chained 2)
unfolding Level
level_2 line = st_lev (fuel line) (suc (fuel line)) 2 line (omega arith) (omega arith) (omega arith) ∙ on_same line 2 (omega arith)

pub level_4 : (line : List Bytes) → Level 4 line ≡ then_read (Level 5 line) (Chained 4)
unfolding Level
level_4 line = st_lev (fuel line) (suc (fuel line)) 4 line (omega arith) (omega arith) (omega arith) ∙ on_same line 4 (omega arith)

pub level_5 : (line : List Bytes) → Level 5 line ≡ then_read (Level 6 line) (Chained 5)
unfolding Level
level_5 line = st_lev (fuel line) (suc (fuel line)) 5 line (omega arith) (omega arith) (omega arith) ∙ on_same line 5 (omega arith)
