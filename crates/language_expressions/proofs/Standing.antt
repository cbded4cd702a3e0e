-- What a loop over turns keeps: a state of the machine that looks so and comes to what the definitions say.
use Rattle.std.proofs.Common.{◌≡◌, ℕ, ◌+◌, ◌*◌, ◌<◌, ◌≤◌, List, [], ◌∷◌, ◌++◌, length, codes, sym, refl, ap, ◌∙◌, arith, length-append}
use mathlib.Core.Option.{Option, some, none}
use Rattle.meaning.specs.Base.{Bytes, same_bytes}
use Rattle.meaning.specs.Values.{Expr, t_num, t_word}
use Rattle.meaning.specs.Text.{read_to_end, expression, fuel, head_piece, tail_pieces}
use Rattle.language_expressions.proofs.Bind.{cond_ind, opt_ind, after_less}
use Rattle.language_expressions.proofs.Free.{Any}
use Rattle.code.specs.Postfix.{Instr, i_null, postfix}
use Rattle.language_expressions.specs.Machine.{State, wants, has, Outcome, goes_on, comes_to, fails, leaf, primary_turn, operand_turn, operator_turn, turn}
use Rattle.language_expressions.specs.declared.machine.Level.{Level as Lv}
use Rattle.language_expressions.specs.declared.machine.Level.TheVariants.{If as l_if, Or as l_or, And as l_and, Not as l_not, Sum as l_sum, Product as l_product, Primary as l_primary}
use Rattle.language_expressions.specs.declared.machine.Mark.{Mark}
use Rattle.language_expressions.specs.declared.machine.Mark.TheVariants.{Chain as m_chain, Applied as m_applied, Comparison as m_comparison, Compared as m_compared, Not as m_not, Paren as m_paren, NoneParen as m_none, Then as m_then, Else as m_else, End as m_end}
use Rattle.language_expressions.proofs.Frames.{St, want, Out, go, done, fail, comes, comes_out, step, step_right, weight}
use Rattle.language_expressions.proofs.Coded.{seen, seen_out, same_turn}

-- how many turns there may be
abbrev pub mark_weight : Mark → ℕ
mark_weight (m_chain c) = 1
mark_weight (m_applied c o) = 2
mark_weight m_comparison = 1
mark_weight (m_compared o) = 1
mark_weight m_not = 1
mark_weight m_paren = 1
mark_weight m_none = 1
mark_weight m_then = 1
mark_weight m_else = 1
mark_weight m_end = 1

abbrev pub marks_weight : List Mark → ℕ
marks_weight [] = 0
marks_weight (m ∷ M) = mark_weight m + marks_weight M

abbrev pub turns_left : State → ℕ
turns_left (wants w l M c) = 16 * length l + (weight w + marks_weight M)
turns_left (has l M c) = 16 * length l + marks_weight M

abbrev pub code_so_far : State → List (Instr Bytes)
code_so_far (wants w l M c) = c
code_so_far (has l M c) = c

pub record Stands (before : List (Instr Bytes)) (t : State) (to : Option Expr) : Type 0 where
  pub state : St
  pub is : t ≡ seen before state
  pub comes_to : comes state ≡ to

pub stands_start : (before : List (Instr Bytes)) (line : List Bytes) → Stands before (wants l_if line [] before) (read_to_end (expression (fuel line) line))
unfolding Any
stands_start before line = record { state = want l_if line []; is = refl; comes_to = refl }

never : {A : Type 0} → ◌≡◌ {A = ℕ} 0 1 → A
never e = absurd (omega arith)

pub stands_on : (before : List (Instr Bytes)) (t u : State) (to : Option Expr) → Stands before t to → turn t ≡ goes_on u → Stands before u to
stands_on before t u to h e = by (step h.state) (sym e ∙ (ap turn h.is ∙ same_turn before h.state)) (sym (step_right h.state) ∙ h.comes_to)
  where
    by : (x : Out) → goes_on u ≡ seen_out before x → comes_out x ≡ to → Stands before u to
    by (go s) p q = record { state = s; is = cc; comes_to = q }
    by (done a) p q = never (cc)
    by fail p q = never (cc)

pub stands_whole : (before : List (Instr Bytes)) (t : State) (c : List (Instr Bytes)) (to : Option Expr) → Stands before t to → turn t ≡ comes_to c → (e : Expr) × (to ≡ some e) × (c ≡ before ++ postfix e)
stands_whole before t c to h e = by (step h.state) (sym e ∙ (ap turn h.is ∙ same_turn before h.state)) (sym (step_right h.state) ∙ h.comes_to)
  where
    by : (x : Out) → comes_to c ≡ seen_out before x → comes_out x ≡ to → (a : Expr) × (to ≡ some a) × (c ≡ before ++ postfix a)
    by (go s) p q = never (cc)
    by (done a) p q = (a, sym q, cc)
    by fail p q = never (cc)

pub stands_bad : (before : List (Instr Bytes)) (t : State) (to : Option Expr) → Stands before t to → turn t ≡ fails → to ≡ none
stands_bad before t to h e = by (step h.state) (sym e ∙ (ap turn h.is ∙ same_turn before h.state)) (sym (step_right h.state) ∙ h.comes_to)
  where
    by : (x : Out) → fails ≡ seen_out before x → comes_out x ≡ to → to ≡ none
    by (go s) p q = never (cc)
    by (done a) p q = never (cc)
    by fail p q = sym q

-- a turn takes of what is left, and adds to the code at most one of that
abbrev pub Spends : ℕ → ℕ → Outcome → Type 0
Spends n k (goes_on t) = (turns_left t < n) × (length (code_so_far t) + turns_left t ≤ k)
Spends n k (comes_to c) = Unit {0}
Spends n k fails = Unit {0}

more : (c : List (Instr Bytes)) (i : (Instr Bytes)) → length (c ++ (i ∷ [])) ≡ length c + 1
more c i = length-append c (i ∷ [])

s_small : (l : List Bytes) (M : List Mark) (c : List (Instr Bytes)) → Spends (turns_left (wants l_primary l M c)) (length c + turns_left (wants l_primary l M c)) (primary_turn l M c)
s_small [] M c = tt
s_small (p ∷ l) M c = cond_ind S (same_bytes p (codes "(")) _ _ (λ e. (omega arith, omega arith))
    (λ e. cond_ind S (same_bytes p (codes "none")) _ _
    (λ d. cond_ind S (same_bytes (head_piece l) (codes "(")) _ _ (λ b. let h : length (tail_pieces l) < length l = after_less l _ _ b in (omega arith, omega arith))
    (λ b. cond_ind S (same_bytes (head_piece l) (codes "num")) _ _ (λ a. let h : length (tail_pieces l) < length l = after_less l _ _ a in (omega arith, omega (arith, more c (i_null t_num))))
    (λ a. cond_ind S (same_bytes (head_piece l) (codes "word")) _ _ (λ k. let h : length (tail_pieces l) < length l = after_less l _ _ k in (omega arith, omega (arith, more c (i_null t_word)))) (λ k. tt))))
    (λ d. opt_ind S (leaf p) _ _ (λ a. tt) (λ i a. (omega arith, omega (arith, more c i)))))
  where
    S : Outcome → Type 0
    S x = Spends (turns_left (wants l_primary (p ∷ l) M c)) (length c + turns_left (wants l_primary (p ∷ l) M c)) x

s_want : (w : Lv) (l : List Bytes) (M : List Mark) (c : List (Instr Bytes)) → Spends (turns_left (wants w l M c)) (length c + turns_left (wants w l M c)) (operand_turn w l M c)
s_want l_if [] M c = grind arith
s_want l_if (p ∷ l) M c = grind arith
s_want l_or l M c = grind arith
s_want l_and l M c = grind arith
s_want l_not [] M c = grind arith
s_want l_not (p ∷ l) M c = grind arith
s_want l_sum l M c = grind arith
s_want l_product l M c = grind arith
s_want l_primary l M c = s_small l M c

s_got : (M : List Mark) (l : List Bytes) (c : List (Instr Bytes)) → Spends (turns_left (has l M c)) (length c + turns_left (has l M c)) (operator_turn M l c)
s_got [] [] c = tt
s_got [] (p ∷ l) c = tt
s_got (m ∷ M) [] c = grind (arith, length-append)
s_got (m ∷ M) (p ∷ l) c = grind (arith, length-append)

spends : (t : State) → Spends (turns_left t) (length (code_so_far t) + turns_left t) (turn t)
spends (wants w l M c) = s_want w l M c
spends (has l M c) = s_got M l c

pub turn_falls : (t u : State) → turn t ≡ goes_on u → turns_left u < turns_left t
turn_falls t u e = (mathlib.Core.Path.subst (λ x. Spends (turns_left t) (length (code_so_far t) + turns_left t) x) e (spends t)).0

pub turn_room : (t u : State) → turn t ≡ goes_on u → length (code_so_far u) + turns_left u ≤ length (code_so_far t) + turns_left t
turn_room t u e = (mathlib.Core.Path.subst (λ x. Spends (turns_left t) (length (code_so_far t) + turns_left t) x) e (spends t)).1

pub deep : (M : List Mark) → length M ≤ marks_weight M
deep [] = omega arith
deep (m ∷ M) = grind (arith, deep M)

-- for a loop: what comes next stands, and there is room
abbrev pub Holds : List (Instr Bytes) → ℕ → Option Expr → Outcome → Type 0
Holds before b to (goes_on t) = Stands before t to × (length (code_so_far t) + turns_left t ≤ length before + b) × (turns_left t ≤ b)
Holds before b to (comes_to c) = (e : Expr) × (to ≡ some e) × (c ≡ before ++ postfix e)
Holds before b to fails = to ≡ none

pub holds_more : (before : List (Instr Bytes)) (b : ℕ) (to : Option Expr) (t : State) → Holds before b to (goes_on t) → Holds before b to (turn t)
holds_more before b to t h = by (turn t) refl
  where
    by : (x : Outcome) → turn t ≡ x → Holds before b to x
    by (goes_on u) e = (stands_on before t u to h.0 e, omega (arith, turn_room t u e, h.1), omega (arith, turn_falls t u e, h.2))
    by (comes_to c) e = stands_whole before t c to h.0 e
    by fails e = stands_bad before t to h.0 e

pub holds_start : (before : List (Instr Bytes)) (line : List Bytes) → Holds before (16 * length line + 12) (read_to_end (expression (fuel line) line)) (goes_on (wants l_if line [] before))
holds_start before line = (stands_start before line, omega arith, omega arith)
