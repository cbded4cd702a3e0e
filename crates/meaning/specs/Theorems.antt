-- What holds of every sound question.
use Rattle.std.specs.Prelude.{◌≡◌, ℕ, ◌<◌, ◌≤◌, true, List, length}
use Rattle.std.proofs.Math.Option.{Option, some, none}
use Rattle.meaning.specs.Base.{Every, Member, among, all_different}
use Rattle.meaning.specs.Values.{Col}
use Rattle.meaning.specs.Steps.{StoredCol, Decl, Question, Table, col_names}
use Rattle.meaning.specs.Plan.{cols_of_table, cols_after_all, used_anywhere}
use Rattle.meaning.specs.Pages.{Pages, cell_at, sound, answer}

-- the columns of a table, if there is one
abbrev pub cols_if_any : Option Table → Option (List Col)
cols_if_any none = none
cols_if_any (some t) = some t.cols

-- a sound question has an answer, with the columns that were told beforehand
abbrev pub SoundAnswers : Type 0
SoundAnswers =
    (ps : Pages) (b : ℕ) (q : Question) (cs : List Col) → sound b q ≡ true → cols_of_table q.decls q.from ≡ some cs
    → cols_if_any (answer ps q) ≡ cols_after_all q.decls cs q.steps

-- a table whose columns have different names, and whose rows each have as many values
pub record WellFormed (t : Table) : Type 0 where
  pub differ : all_different (col_names t.cols) ≡ true
  pub wide : Every (λ r. length r ≡ length t.cols) t.rows

-- a question that begins from columns cs has the answer u: of the columns told, 1 to 64 of them, and well formed
pub record Answered (ps : Pages) (q : Question) (cs : List Col) (u : Table) : Type 0 where
  pub begins : cols_of_table q.decls q.from ≡ some cs
  pub told : cols_after_all q.decls cs q.steps ≡ some u.cols
  pub comes : answer ps q ≡ some u
  pub some_cols : 1 ≤ length u.cols
  pub few_cols : length u.cols ≤ 64
  pub whole : WellFormed u

-- a sound question has an answer, of 1 to 64 columns as told, each row as wide as these
abbrev pub SoundWhole : Type 0
SoundWhole = (ps : Pages) (b : ℕ) (q : Question) → sound b q ≡ true → (cs : List Col) × (u : Table) × Answered ps q cs u

-- pages that hold the same cells in all columns that a question uses
abbrev pub AgreeOnUsed : Pages → Pages → Question → Type 0
AgreeOnUsed ps qs q =
    (d : Decl) (s : StoredCol) (i : ℕ) → i < d.rows → Member d q.decls → Member s d.cols
    → among s.col.name (used_anywhere q.decls q.from q.steps d.name) ≡ true
    → cell_at ps s.page i ≡ cell_at qs s.page i

-- what isn't used doesn't matter: pages that agree in the used columns have one answer
abbrev pub UnusedNoMatter : Type 0
UnusedNoMatter = (ps qs : Pages) (b : ℕ) (q : Question) → sound b q ≡ true → AgreeOnUsed ps qs q → answer ps q ≡ answer qs q
