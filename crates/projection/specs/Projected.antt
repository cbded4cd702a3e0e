-- A run on projected tables: each holds only the columns that are used from there on, maybe none.
use Rattle.std.specs.Prelude.{◌≡◌, ℕ, suc, ◌+◌, ◌*◌, true, cond, List, [], ◌∷◌, ◌++◌, length, take, drop}
use Rattle.std.proofs.Math.Option.{Option, some, none}
use Rattle.meaning.specs.Base.{map_or, and_then, filter, each, Bytes, same_bytes, among}
use Rattle.meaning.specs.Values.{t_num, Col, Row, eval}
use Rattle.meaning.specs.Steps.{StoredCol, Decl, Step, s_keep, s_make, s_pick, s_join, s_group, s_order, s_take, s_skip, s_unite, s_distinct, Question, Table, table, find_decl, col_names, project_row, is_true, join, groups, ordered, distinct}
use Rattle.meaning.specs.Plan.{decl_cols, cols_after, used, used_of_named, of_named, pages_for, pages_read}
use Rattle.meaning.specs.Pages.{Pages, row_at, numbers_from, sound, answer}
use Rattle.meaning.specs.Promise.{rows_all, space}

-- the columns whose names are among us, in their order; there may be none
abbrev pub project_cols : List Bytes → List Col → List Col
project_cols us cs = filter (λ c. among c.name us) cs

-- a table cut down to the columns whose names are among us
abbrev pub project : List Bytes → Table → Table
project us t =
    table (project_cols us t.cols) (each (project_row t.cols (col_names (project_cols us t.cols))) t.rows)

-- the place of the first column of this name, counted from 0
abbrev pub col_place : List Col → Bytes → Option ℕ
col_place [] x = none
col_place (c ∷ cs) x = cond (same_bytes c.name x) (some 0) (and_then (col_place cs x) (λ i. some (suc i)))

-- the rows after a step, from projected tables: t before it, b that it names; es are all columns after it, ws the
-- names of those that go on
abbrev pub projected_rows : List Col → List Bytes → Table → Table → Step → List Row
projected_rows es ws t b (s_keep e) =
    each (project_row t.cols ws) (filter (λ r. is_true (eval t.cols r e)) t.rows)
-- the type of the new column doesn't matter here
projected_rows es ws t b (s_make x e) =
    each (project_row (t.cols ++ (record { name = x; ty = t_num } ∷ [])) ws)
    (each (λ r. r ++ (eval t.cols r e ∷ [])) t.rows)
projected_rows es ws t b (s_pick xs) = each (project_row t.cols ws) t.rows
projected_rows es ws t b (s_join n x y stay) = each (project_row (t.cols ++ b.cols) ws) (join t b x y stay)
projected_rows es ws t b (s_group xs aggs) = each (project_row es ws) (groups t.cols xs aggs t.rows)
projected_rows es ws t b (s_order ks) = each (project_row t.cols ws) (ordered t.cols ks t.rows)
projected_rows es ws t b (s_take n) = each (project_row t.cols ws) (take n t.rows)
projected_rows es ws t b (s_skip n) = each (project_row t.cols ws) (drop n t.rows)
projected_rows es ws t b (s_unite n) = each (project_row t.cols ws) (t.rows ++ b.rows)
projected_rows es ws t b s_distinct = each (project_row t.cols ws) (distinct [] t.rows)

-- the projected table after a step, us being the columns used there
abbrev pub projected_step : List Col → List Bytes → Table → Table → Step → Table
projected_step es us t b s = table (project_cols us es) (projected_rows es (col_names (project_cols us es)) t b s)

-- a way to have a declared table cut down to the columns whose names are among us
abbrev pub Scan : Type 0
Scan = Decl → List Bytes → Table

-- the stored columns whose names are among us
abbrev pub project_stored : List Bytes → List StoredCol → List StoredCol
project_stored us ss = filter (λ s. among s.col.name us) ss

-- a declared table cut down as it is read from pages: of no other column a word is looked at
abbrev pub scan : Pages → Scan
scan ps d us =
    table (project_cols us (decl_cols d)) (each (row_at ps (project_stored us d.cols)) (numbers_from d.rows 0))

-- the table that a step names, cut down to what is used of it; an empty one if it names none
abbrev pub scan_named : List Decl → Scan → Step → List Bytes → Table
scan_named ds sc s us =
    map_or (of_named (find_decl ds) s) (table [] []) (λ d. sc d (used_of_named (decl_cols d) s us))

-- the projected table after step s, from the one before it; es are all columns after it, ss the steps to come
abbrev pub projected_next : List Decl → Scan → List Col → Table → Step → List Step → Table
projected_next ds sc es t s ss = projected_step es (used ds es ss) t (scan_named ds sc s (used ds es ss)) s

-- the projected table after steps, from t before them; cs are all columns before them
abbrev pub projected_steps : List Decl → Scan → List Col → Table → List Step → Table
projected_steps ds sc cs t [] = t
projected_steps ds sc cs t (s ∷ ss) =
    map_or (cols_after ds cs s) t (λ es. projected_steps ds sc es (projected_next ds sc es t s ss) ss)

-- the first projected table of a question that begins from table d
abbrev pub projected_first : Pages → Question → Decl → Table
projected_first ps q d = scan ps d (used q.decls (decl_cols d) q.steps)

-- what a question comes to by projected tables alone
abbrev pub projected_answer : Pages → Question → Option Table
projected_answer ps q =
    and_then (find_decl q.decls q.from) (λ d.
    some (projected_steps q.decls (scan ps) (decl_cols d) (projected_first ps q d) q.steps))

-- the run on projected tables, which reads only what is used, comes to the answer
abbrev pub ProjectedAnswers : Type 0
ProjectedAnswers = (ps : Pages) (b : ℕ) (q : Question) → sound b q ≡ true → projected_answer ps q ≡ answer ps q

-- an amount f for the declared table that a step names, by the number of its columns and of its rows
abbrev pub named_amount : (ℕ → ℕ → ℕ) → List Decl → Step → ℕ
named_amount f ds s = map_or (of_named (find_decl ds) s) 0 (λ d. f (length d.cols) d.rows)

-- an amount f for each table of a run, by the number of all its columns and of its rows, added up
abbrev pub projected_total : (ℕ → ℕ → ℕ) → List Decl → Scan → List Col → Table → List Step → ℕ
projected_total f ds sc cs t [] = f (length cs) (length t.rows)
projected_total f ds sc cs t (s ∷ ss) =
    f (length cs) (length t.rows)
    + (named_amount f ds s
    + map_or (cols_after ds cs s) 0 (λ es. projected_total f ds sc es (projected_next ds sc es t s ss) ss))

-- the same for a question
abbrev pub projected_all : (ℕ → ℕ → ℕ) → Pages → Question → ℕ
projected_all f ps q =
    map_or (find_decl q.decls q.from) 0 (λ d.
    projected_total f q.decls (scan ps) (decl_cols d) (projected_first ps q d) q.steps)

-- the rows and the pages of all tables can be counted in the run on projected tables
abbrev pub ProjectedTotals : Type 0
ProjectedTotals =
    (ps : Pages) (b : ℕ) (q : Question) → sound b q ≡ true
    → (rows_all ps q ≡ projected_all (λ c r. r) ps q) × (space ps q ≡ projected_all (λ c r. c * pages_for r) ps q)

-- the pages that a scan reads
abbrev pub scan_pages : Decl → List Bytes → ℕ
scan_pages d us = length (project_stored us d.cols) * pages_for d.rows

-- the pages that the scans of steps read
abbrev pub scan_pages_steps : List Decl → List Col → List Step → ℕ
scan_pages_steps ds cs [] = 0
scan_pages_steps ds cs (s ∷ ss) =
    map_or (cols_after ds cs s) 0 (λ es.
    map_or (of_named (find_decl ds) s) 0 (λ d. scan_pages d (used_of_named (decl_cols d) s (used ds es ss)))
    + scan_pages_steps ds es ss)

-- the pages that the scans of a question read
abbrev pub scan_pages_all : Question → ℕ
scan_pages_all q =
    map_or (find_decl q.decls q.from) 0 (λ d.
    scan_pages d (used q.decls (decl_cols d) q.steps) + scan_pages_steps q.decls (decl_cols d) q.steps)

-- the run on projected tables reads just the pages that were told beforehand
abbrev pub ProjectedReads : Type 0
ProjectedReads = (b : ℕ) (q : Question) → sound b q ≡ true → scan_pages_all q ≡ pages_read q.decls q.from q.steps
