-- The lines before the steps, and those of the steps, one after another.
use Rattle.std.proofs.Common.{◌≡◌, Bool, true, false, cond, List, codes, sym, refl, ap, ◌∙◌}
use mathlib.Core.Option.{Option, some, none}
use borrow.Author.Tests.{clash}
use Rattle.meaning.specs.Base.{and_then, is_some, Bytes, same_bytes}
use Rattle.meaning.specs.Steps.{Decl}
use Rattle.meaning.specs.Text.{head_piece, tail_pieces, table_line}
use Rattle.language_pieces.specs.Views.{ahead}
use Rattle.language_statements.specs.Items.{all_columns}
use Rattle.language_statements.specs.Statements.{lone_name, table_of}
use Rattle.language_statements.specs.declared.views.Table.{Table}
use Rattle.language.specs.Questions.{head_in}

pub some_still : {A C : Type 0} (o : Option A) (f : A → C) → is_some (and_then o (λ x. some (f x))) ≡ is_some o
some_still none f = refl
some_still (some x) f = refl

pub none_of : {A : Type 0} (o : Option A) → false ≡ is_some o → o ≡ none
none_of none e = refl
none_of (some x) e = absurd (clash e)

pub some_of : {A : Type 0} (o : Option A) → true ≡ is_some o → (x : A) × (o ≡ some x)
some_of none e = absurd (clash (sym e))
some_of (some x) e = (x, refl)

pub table_whole : (l : List Bytes) (t : Table) → table_line l ≡ table_of t → is_some (table_line l) ≡ is_some (all_columns (ahead t.columns.reader))
table_whole l t e = ap is_some e ∙ some_still (all_columns (ahead t.columns.reader)) _

-- a line by its first piece
by_first : List Bytes → Bool → Bool → Option Decl → Option Bytes → Option (Option Bytes)
by_first s t f d x = cond t (and_then d (λ d. some none)) (cond f (and_then x (λ n. some (some n))) none)

head_is : (s : List Bytes) → head_in s ≡ by_first s (same_bytes (head_piece s) (codes "table")) (same_bytes (head_piece s) (codes "from")) (table_line (tail_pieces s)) (lone_name (tail_pieces s))
unfolding head_in by_first
head_is s = refl

pub head_table : (s l : List Bytes) → true ≡ same_bytes (head_piece s) (codes "table") → l ≡ tail_pieces s → true ≡ is_some (table_line l) → head_in s ≡ some none
unfolding by_first
head_table s l f g h =
    let d = some_of (table_line l) h in
    head_is s ∙ (ap (λ b. by_first s b (same_bytes (head_piece s) (codes "from")) (table_line (tail_pieces s)) (lone_name (tail_pieces s))) (sym f)
    ∙ ap (λ o. and_then o (λ c. some none)) (ap table_line (sym g) ∙ d.1))

pub head_table_bad : (s l : List Bytes) → true ≡ same_bytes (head_piece s) (codes "table") → l ≡ tail_pieces s → false ≡ is_some (table_line l) → head_in s ≡ none
unfolding by_first
head_table_bad s l f g h =
    head_is s ∙ (ap (λ b. by_first s b (same_bytes (head_piece s) (codes "from")) (table_line (tail_pieces s)) (lone_name (tail_pieces s))) (sym f)
    ∙ ap (λ o. and_then o (λ c. some none)) (ap table_line (sym g) ∙ none_of (table_line l) h))

pub head_from : (s l : List Bytes) (o : Option Bytes) → false ≡ same_bytes (head_piece s) (codes "table") → true ≡ same_bytes (head_piece s) (codes "from") → l ≡ tail_pieces s → lone_name l ≡ o → head_in s ≡ and_then o (λ x. some (some x))
unfolding by_first
head_from s l o f f2 g h =
    head_is s ∙ (ap (λ b. by_first s b (same_bytes (head_piece s) (codes "from")) (table_line (tail_pieces s)) (lone_name (tail_pieces s))) (sym f)
    ∙ (ap (λ b. by_first s false b (table_line (tail_pieces s)) (lone_name (tail_pieces s))) (sym f2) ∙ ap (λ x. and_then x (λ n. some (some n))) (ap lone_name (sym g) ∙ h)))

pub head_none : (s : List Bytes) → false ≡ same_bytes (head_piece s) (codes "table") → false ≡ same_bytes (head_piece s) (codes "from") → head_in s ≡ none
unfolding by_first
head_none s f f2 =
    head_is s ∙ (ap (λ b. by_first s b (same_bytes (head_piece s) (codes "from")) (table_line (tail_pieces s)) (lone_name (tail_pieces s))) (sym f)
    ∙ ap (λ b. by_first s false b (table_line (tail_pieces s)) (lone_name (tail_pieces s))) (sym f2))
