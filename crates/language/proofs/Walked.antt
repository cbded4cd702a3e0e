-- Tables and steps, one after another.
use Rattle.std.proofs.Common.{◌≡◌, ℕ, ◌≤◌, Bool, true, false, cond, List, [], ◌∷◌, length, codes, Some, None, le_refl, sym, refl, ap, ◌∙◌, arith}
use mathlib.Core.Option.{Option, some, none}
use borrow.Author.Tests.{clash}
use Rattle.meaning.specs.Base.{is_some, Bytes, same_bytes}
use Rattle.meaning.specs.Steps.{Decl, Step as Asked}
use Rattle.meaning.specs.Text.{head_piece, tail_pieces, step_line, table_line}
use Rattle.code.specs.Room.{code_words, mark_words}
use Rattle.language_statements.specs.Statements.{step_of, table_of, OnLine, EnoughFor}
use Rattle.language_statements.specs.declared.views.Step.{Step}
use Rattle.language_statements.specs.declared.views.Step.TheVariants.{Keep, Make}
use Rattle.language_statements.specs.declared.views.Table.{Table}
use Rattle.language.specs.Lines.{Line}
use Rattle.language.specs.Questions.{pieces, step_in, steps_in, tables_in}
use Rattle.language.specs.Walks.{first_of, Viewed}
use Rattle.language_pieces.specs.Views.{ahead}
use Rattle.language_pieces.specs.declared.reader.Reader.{Reader}

wrong : {A : Type 0} (o : Option A) (x : A) → o ≡ none → is_some o ≡ true → o ≡ some x
wrong o x e h = absurd (clash (sym (ap is_some e) ∙ h))

-- a line that is a step
enough : (t : List ℕ) (v : Step) (k n m : ℕ) → OnLine t v → length t ≤ k → mark_words k ≤ n → code_words k ≤ m → EnoughFor n m v
enough t (Keep r) k n m e h i j = let q = ap length e in (omega arith, omega arith)
enough t (Make x r) k n m e h i j = let q = ap length e in (omega arith, omega arith)
enough t _ k n m e h i j = tt

step_first : (l : Line) (ls : List Line) (s : List Bytes) (o : Option Asked) → s ≡ pieces l → step_line (head_piece s) (tail_pieces s) ≡ o → steps_in (l ∷ ls) ≡ first_of o (steps_in ls)
unfolding step_in
step_first l ls s o g m = ap (λ x. first_of x (steps_in ls)) (ap (λ x. step_line (head_piece x) (tail_pieces x)) (sym g) ∙ m)

pub step_viewed : (r : Reader) (v : Step) → step_line (head_piece (ahead r)) (tail_pieces (ahead r)) ≡ step_of v → OnLine r.line.now v → Viewed step_of steps_in EnoughFor r (Some v)
step_viewed r v m o = ((λ l ls g. step_first l ls (ahead r) (step_of v) g m), (λ i j h k. enough r.line.now v (length r.line.now) i j o (le_refl _) h k))

-- lines whose first is no step have none
pub no_step_in : (a b : List Line) (l : Line) (s : List Bytes) → a ≡ l ∷ b → s ≡ pieces l → step_line (head_piece s) (tail_pieces s) ≡ none → is_some (steps_in a) ≡ true → steps_in a ≡ some []
no_step_in a b l s e g m = wrong (steps_in a) [] (ap steps_in e ∙ step_first l b s none g m)

pub no_step : (r : Reader) → step_line (head_piece (ahead r)) (tail_pieces (ahead r)) ≡ none → Viewed step_of steps_in EnoughFor r None
no_step r m l ls g = no_step_in (l ∷ ls) ls l (ahead r) refl g m

-- a line by its first piece
by_first : List Bytes → Bool → Option Decl → Option (List Decl) → Option (List Decl)
by_first s t d ds = cond t (first_of d ds) (some [])

table_first : (l : Line) (ls : List Line) (s r : List Bytes) (o : Option Decl) → s ≡ pieces l → true ≡ same_bytes (head_piece s) (codes "table") → r ≡ tail_pieces s → table_line r ≡ o → tables_in (l ∷ ls) ≡ first_of o (tables_in ls)
unfolding by_first
table_first l ls s r o g f h k =
    ap (λ y. by_first y (same_bytes (head_piece y) (codes "table")) (table_line (tail_pieces y)) (tables_in ls)) (sym g)
    ∙ (ap (λ t. by_first s t (table_line (tail_pieces s)) (tables_in ls)) (sym f) ∙ ap (λ x. first_of x (tables_in ls)) (ap table_line (sym h) ∙ k))

pub table_viewed : (r q : Reader) (t : Table) → true ≡ same_bytes (head_piece (ahead r)) (codes "table") → ahead q ≡ tail_pieces (ahead r) → table_line (ahead q) ≡ table_of t → Viewed table_of tables_in (λ n m u. Unit {0}) r (Some t)
table_viewed r q t f h k = ((λ l ls g. table_first l ls (ahead r) (ahead q) (table_of t) g f h k), (λ n m i j. tt))

-- lines whose first is no table, though it begins as one, have none
pub bad_table_in : (a b : List Line) (l : Line) (s r : List Bytes) → a ≡ l ∷ b → s ≡ pieces l → true ≡ same_bytes (head_piece s) (codes "table") → r ≡ tail_pieces s → table_line r ≡ none → is_some (tables_in a) ≡ true → tables_in a ≡ some []
bad_table_in a b l s r e g f h k = wrong (tables_in a) [] (ap tables_in e ∙ table_first l b s r none g f h k)

pub bad_table : (r q : Reader) → true ≡ same_bytes (head_piece (ahead r)) (codes "table") → ahead q ≡ tail_pieces (ahead r) → table_line (ahead q) ≡ none → Viewed {V = Table} table_of tables_in (λ n m u. Unit {0}) r None
bad_table r q f h k l ls g = bad_table_in (l ∷ ls) ls l (ahead r) (ahead q) refl g f h k

-- lines that begin with something else have none
pub tables_over : (a b : List Line) (l : Line) (s : List Bytes) → a ≡ l ∷ b → s ≡ pieces l → false ≡ same_bytes (head_piece s) (codes "table") → tables_in a ≡ some []
unfolding by_first
tables_over a b l s e g f =
    ap tables_in e ∙ (ap (λ y. by_first y (same_bytes (head_piece y) (codes "table")) (table_line (tail_pieces y)) (tables_in b)) (sym g)
    ∙ ap (λ t. by_first s t (table_line (tail_pieces s)) (tables_in b)) (sym f))

pub no_table : (r : Reader) → false ≡ same_bytes (head_piece (ahead r)) (codes "table") → Viewed {V = Table} table_of tables_in (λ n m u. Unit {0}) r None
no_table r f l ls g e = tables_over (l ∷ ls) ls l (ahead r) refl g f
