-- A whole question, from its lines; and where a text that asks none goes wrong.
use Rattle.std.specs.Prelude.{◌≡◌, ℕ, suc, ◌+◌, ◌-◌, ◌*◌, ◌≤◌, true, cond, List, [], ◌∷◌, length, take, drop, Some, None, Ok, Err, codes, Option as Given, Result}
use Rattle.std.specs.Borrow.{Bor}
use Rattle.std.specs.List.{count_by}
use Rattle.std.proofs.Math.Option.{Option, some, none}
use Rattle.meaning.specs.Base.{map_or, and_then, is_some, Bytes, same_bytes}
use Rattle.meaning.specs.Steps.{Decl, Step, Question as Asked}
use Rattle.meaning.specs.Text.{head_piece, tail_pieces, lines_of, step_line, table_line, reads}
use Rattle.code.specs.Room.{code_words, mark_words}
use Rattle.language_pieces.specs.Pieces.{cuts}
use Rattle.language_statements.specs.Statements.{lone_name}
use Rattle.language.specs.Lines.{is_newline, Line, numbered, left_in}
use Rattle.language.specs.Faults.{TrueOf}
use Rattle.language.specs.declared.faults.NotAQuestion.{NotAQuestion}
use Rattle.language.specs.declared.faults.Reason.TheVariants.{NoFrom}
use Rattle.language.specs.declared.question.Question.{Question}

-- the pieces of a line
abbrev pub pieces : Line → List Bytes
pieces l = cuts l.bytes

-- the step that pieces are
unfoldable pub step_in : List Bytes → Option Step
step_in l = step_line (head_piece l) (tail_pieces l)

-- the steps that lines are
abbrev pub steps_in : List Line → Option (List Step)
steps_in [] = some []
steps_in (l ∷ ls) = and_then (step_in (pieces l)) (λ s. and_then (steps_in ls) (λ more. some (s ∷ more)))

-- a line before the steps: a table, or from with its name
unfoldable pub head_in : List Bytes → Option (Option Bytes)
head_in l =
    cond (same_bytes (head_piece l) (codes "table")) (and_then (table_line (tail_pieces l)) (λ d. some none))
    (cond (same_bytes (head_piece l) (codes "from")) (and_then (lone_name (tail_pieces l)) (λ x. some (some x))) none)

-- what comes behind the tables: the name behind from, and the lines of the steps
pub record After : Type 0 where
  pub name : Bytes
  pub lines : List Line

-- what comes behind the tables of lines
abbrev pub after_tables : List Line → Option After
after_tables [] = none
after_tables (l ∷ ls) = and_then (head_in (pieces l)) (λ h. map_or h (after_tables ls) (λ x. some (record { name = x; lines = ls })))

-- the tables that come first
abbrev pub tables_in : List Line → Option (List Decl)
tables_in [] = some []
tables_in (l ∷ ls) =
    cond (same_bytes (head_piece (pieces l)) (codes "table"))
    (and_then (table_line (tail_pieces (pieces l))) (λ d. and_then (tables_in ls) (λ ds. some (d ∷ ds))))
    (some [])

-- the first line that is no step
abbrev pub wrong_step : List Line → Option Line
wrong_step [] = none
wrong_step (l ∷ ls) = map_or (step_in (pieces l)) (some l) (λ s. wrong_step ls)

-- the first line that is not what it should be: a table or from, and steps behind that
abbrev pub wrong_in : List Line → Option Line
wrong_in [] = none
wrong_in (l ∷ ls) = map_or (head_in (pieces l)) (some l) (λ h. map_or h (wrong_in ls) (λ x. wrong_step ls))

-- the first such line of a text
abbrev pub wrong_line : List ℕ → Option Line
wrong_line text = wrong_in (numbered suc 0 (lines_of [] text))

-- so many bytes are newlines
abbrev pub newlines : List ℕ → ℕ
newlines s = count_by is_newline s

-- the number of the last line; a newline at the end begins no other
abbrev pub last_line : List ℕ → ℕ
last_line text = 1 + newlines (take (length text - 1) text)

-- a refusal tells of this line, and is right about it
pub record BlamesLine (e : NotAQuestion) (l : Line) : Type 0 where
  pub number : e.line ≡ l.number
  pub within : e.place ≤ length l.bytes
  pub is_true : TrueOf e.reason (drop e.place l.bytes)

-- a refusal tells of the line that is wrong
abbrev pub BlamesFirst : NotAQuestion → Option Line → Type 0
BlamesFirst e none = ⊥
BlamesFirst e (some l) = BlamesLine e l

-- a refusal tells of the line that is wrong, or that from is missing
abbrev pub Blames : NotAQuestion → List ℕ → Option Line → Type 0
Blames e text none = (e.reason ≡ NoFrom) × (e.line ≡ last_line text) × (e.place ≡ 0)
Blames e text (some l) = BlamesLine e l

-- the views of a question are those of this one
pub record Asks (q : Question) (a : Asked) : Type 0 where
  pub tables : tables_in (left_in q.tables.lines) ≡ some a.decls
  pub from : q.from.now ≡ a.from
  pub steps : steps_in (left_in q.steps.lines) ≡ some a.steps

-- what reading a text came to
abbrev pub Read : Result Question NotAQuestion → List ℕ → Type 0
Read (Ok q) text = (a : Asked) × (reads text ≡ some a) × Asks q a
Read (Err e) text = (reads text ≡ none) × Blames e text (wrong_line text)

-- what reading the lines of a text up to from came to
abbrev pub HeadsRead : Result (Bor Bytes) NotAQuestion → List ℕ → List Line → List Line → Type 0
HeadsRead (Err e) text before after = (after_tables before ≡ none) × Blames e text (wrong_in before)
HeadsRead (Ok x) text before after = (after_tables before ≡ some (record { name = x.now; lines = after })) × (wrong_in before ≡ wrong_step after)

-- what reading a line before the steps came to
abbrev pub HeadRead : {E : Type 0} → Result (Given (Bor Bytes)) E → Option (Option Bytes) → Type 0
HeadRead (Err e) o = o ≡ none
HeadRead (Ok None) o = o ≡ some none
HeadRead (Ok (Some x)) o = o ≡ some (some x.now)

-- what checking the lines of the steps came to
abbrev pub StepsChecked : {A : Type 0} → Result A NotAQuestion → List Line → Type 0
StepsChecked (Err e) ls = (steps_in ls ≡ none) × BlamesFirst e (wrong_step ls)
StepsChecked (Ok u) ls = is_some (steps_in ls) ≡ true

-- so many words reading takes for a text of so many bytes: marks and code for its longest line
abbrev pub reading_words : ℕ → ℕ
reading_words bytes = mark_words bytes + code_words bytes

-- they are at most 96 for each byte and 256
abbrev pub ReadingFits : Type 0
ReadingFits = (bytes : ℕ) → reading_words bytes ≤ 96 * bytes + 256
