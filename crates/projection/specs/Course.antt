-- The run on projected tables, turn by turn: a turn is one step.
use Rattle.std.specs.Prelude.{◌≡◌, ℕ, ◌+◌, ◌*◌, ◌<◌, ◌≤◌, true, List, [], ◌∷◌, length}
use Rattle.std.proofs.Math.Option.{some}
use Rattle.meaning.specs.Base.{map_or, is_some}
use Rattle.meaning.specs.Values.{Col}
use Rattle.meaning.specs.Steps.{Decl, Step, Question, Table, table, find_decl}
use Rattle.meaning.specs.Plan.{decl_cols, cols_after, cols_after_all}
use Rattle.meaning.specs.Pages.{Pages, sound, answer}
use Rattle.meaning.specs.Promise.{rows_all, Kept}
use Rattle.projection.specs.Projected.{Scan, scan, projected_next, projected_steps, projected_first, named_amount}

-- where a run stands: all columns of the table at hand, that table projected, and the steps to come
pub record Run : Type 0 where
  pub columns : List Col
  pub held : Table
  pub rest : List Step

-- where the run of a question begins
abbrev pub run_start : Pages → Question → Run
run_start ps q =
    map_or (find_decl q.decls q.from) (record { columns = []; held = table [] []; rest = [] }) (λ d.
    record { columns = decl_cols d; held = projected_first ps q d; rest = q.steps })

-- where a run stands after the first of these steps
abbrev pub run_step : List Decl → Scan → Run → List Step → Run
run_step ds sc h [] = h
run_step ds sc h (s ∷ ss) =
    map_or (cols_after ds h.columns s) h (λ es.
    record { columns = es; held = projected_next ds sc es h.held s ss; rest = ss })

-- where a run stands one turn later
abbrev pub run_turn : List Decl → Scan → Run → Run
run_turn ds sc h = run_step ds sc h h.rest

-- a run that comes to the answer, with i turns done
pub record Running (q : Question) (ps : Pages) (i : ℕ) (h : Run) : Type 0 where
  pub comes : some (projected_steps q.decls (scan ps) h.columns h.held h.rest) ≡ answer ps q
  pub fits : is_some (cols_after_all q.decls h.columns h.rest) ≡ true
  pub left : length h.rest + i ≡ length q.steps

-- the rows of the table that the first of these steps names
abbrev pub named_next : List Decl → List Step → ℕ
named_next ds [] = 0
named_next ds (s ∷ ss) = named_amount (λ c r. r) ds s

-- the rows that the turn from h to k has to do with: before its step, of the table that it names, after it
abbrev pub turn_rows : List Decl → Run → Run → ℕ
turn_rows ds h k = length h.held.rows + (named_next ds h.rest + length k.held.rows)

-- the rows that the turns of steps have to do with, added up
abbrev pub rows_turned : List Decl → Scan → List Col → Table → List Step → ℕ
rows_turned ds sc cs t [] = 0
rows_turned ds sc cs t (s ∷ ss) =
    map_or (cols_after ds cs s) 0 (λ es.
    let u = projected_next ds sc es t s ss in
    (length t.rows + (named_amount (λ c r. r) ds s + length u.rows)) + rows_turned ds sc es u ss)

-- the rows that the turns to come have to do with
abbrev pub rows_to_come : List Decl → Scan → Run → ℕ
rows_to_come ds sc h = rows_turned ds sc h.columns h.held h.rest

-- all turns of a run together have to do with each row at most twice
abbrev pub TurnedTwice : Type 0
TurnedTwice =
    (ps : Pages) (b : ℕ) (q : Question) → sound b q ≡ true
    → rows_to_come q.decls (scan ps) (run_start ps q) ≤ 2 * rows_all ps q

-- a run that began on pages ps, with border b and x touches, and may touch f pages for each row of a turn: after i
-- turns there are pages qs and y touches, and the run stands at h
pub record Course (q : Question) (ps : Pages) (b f x i : ℕ) (qs : Pages) (y : ℕ) (h : Run) : Type 0 where
  pub kept : Kept ps qs b
  pub running : Running q ps i h
  pub counts :
      y + f * rows_to_come q.decls (scan ps) h ≤ x + f * rows_to_come q.decls (scan ps) (run_start ps q)

-- a sound question has a course to begin with
abbrev pub CourseStarts : Type 0
CourseStarts =
    (q : Question) (ps : Pages) (b f x : ℕ) → sound b q ≡ true → Course q ps b f x 0 ps x (run_start ps q)

-- a turn that keeps the pages below the border, and touches few enough, leads a course on; it may scan the pages as
-- they are by then
abbrev pub CourseTurns : Type 0
CourseTurns =
    (q : Question) (ps : Pages) (b f x i : ℕ) (qs : Pages) (y : ℕ) (h : Run) (rs : Pages) (z : ℕ) (k : Run)
    → sound b q ≡ true → i < length q.steps → Course q ps b f x i qs y h
    → Kept qs rs b → k ≡ run_turn q.decls (scan qs) h → z ≤ y + f * turn_rows q.decls h k
    → Course q ps b f x (i + 1) rs z k

-- after as many turns as steps the table at hand is the answer, with at most 2 * f touches for each row of all tables
abbrev pub CourseEnds : Type 0
CourseEnds =
    (q : Question) (ps : Pages) (b f x i : ℕ) (qs : Pages) (y : ℕ) (h : Run)
    → sound b q ≡ true → length q.steps ≤ i → Course q ps b f x i qs y h
    → (answer ps q ≡ some h.held) × (y ≤ x + f * (2 * rows_all ps q))
