-- A whole run on projected tables.
use Rattle.std.proofs.Common.{◌≡◌, ℕ, true, false, cond, not, List, [], ◌∷◌, sym, refl, ap, ◌∙◌, subst, ap₂, arith}
use mathlib.Core.Option.{some, none}
use Rattle.std.proofs.lemmas.Bool.{and_parts}
use Rattle.meaning.specs.Base.{map_or, and_then, is_some, Bytes, among, all_different, each}
use Rattle.meaning.specs.Values.{Value, get}
use Rattle.meaning.specs.Steps.{StoredCol, Decl, Step, Question, Table, table, Catalog, find_decl, col_names, project_row, apply_step, apply_steps}
use Rattle.meaning.specs.Plan.{decl_cols, cols_of_table, cols_after, cols_after_all, used_before, used_of_named, used, named_table, valid_decls}
use Rattle.meaning.specs.Pages.{Pages, value_at, row_at, numbers_from, stored_table, catalog, sound, answer}
use Rattle.meaning.specs.Theorems.{cols_if_any, WellFormed}
use Rattle.projection.specs.Projected.{project_cols, project, projected_step, projected_next, projected_steps, projected_first, project_stored, Scan, scan, scan_named, ProjectedAnswers}
use Rattle.meaning.proofs.ColumnsTold.{Told, step_told, pages_told}
use Rattle.meaning.proofs.Names.{In, apart, same_self, look, get_look}
use Rattle.meaning.proofs.RowsAgree.{each_same}
use Rattle.meaning.proofs.TablesAlike.{some_of, all_equal}
use Rattle.projection.proofs.Steps.{project_agree, project_there, project_all, each_each, cut_named, project_step}
use Rattle.meaning.proofs.WellFormed.{AllWellFormed, step_well_formed, decl_different, catalog_well_formed, sound_whole}

-- all of a table is itself
project_whole : (t : Table) → WellFormed t → project (col_names t.cols) t ≡ t
project_whole t w =
    ap (λ l. table (project_cols (col_names t.cols) t.cols) l) (sym (all_equal t.cols (project_cols (col_names t.cols) t.cols) (ap col_names (sym (project_all t.cols))) w.differ (project_agree (col_names t.cols) t.cols t.rows w.wide)))
    ∙ ap (λ c. table c t.rows) (project_all t.cols)

-- a run over a scan that gives what the named tables are, cut down
module _ (ds : List Decl) (ts : Catalog) (sc : Scan) (named : (s : Step) (us : List Bytes) → scan_named ds sc s us ≡ cut_named ts s us) (td : Told ts ds) (tw : AllWellFormed ts) where
  pub project_run :
      (ss : List Step) (t u : Table) → WellFormed t → apply_steps ts t ss ≡ some u
      → projected_steps ds sc t.cols (project (used ds t.cols ss) t) ss ≡ u
  project_run [] t u w e = let f : t ≡ u = cc in project_whole t w ∙ f
  project_run (s ∷ ss) t u w e =
      let p = some_of (apply_step ts t s) (λ v. apply_steps ts v ss) u e in
      let v = p.0 in
      let us = used ds v.cols ss in
      let c : cols_after ds t.cols s ≡ some v.cols = sym (step_told ts ds td t s) ∙ ap cols_if_any p.1 in
      subst (λ o. map_or o (project (map_or o [] (λ es. used_before t.cols s (used ds es ss))) t) (λ es. projected_steps ds sc es (projected_next ds sc es (project (map_or o [] (λ es. used_before t.cols s (used ds es ss))) t) s ss) ss) ≡ u) (sym c)
      (ap (λ b. projected_steps ds sc v.cols (projected_step v.cols us (project (used_before t.cols s us) t) b s) ss) (named s us)
      ∙ (ap (λ x. projected_steps ds sc v.cols x ss) (sym (project_step ts us t s v w tw p.1))
      ∙ project_run ss v u (step_well_formed ts t s v tw w p.1) p.2))

-- a table read from pages by its used columns alone
stored_names :
    (us : List Bytes) (ss : List StoredCol) → col_names (project_cols us (each (λ s. s.col) ss)) ≡ each (λ s. s.col.name) (project_stored us ss)
stored_names us [] = refl
stored_names us (s ∷ ss) =
    elim (among s.col.name us) as (λ b. col_names (cond b (s.col ∷ project_cols us (each (λ s. s.col) ss)) (project_cols us (each (λ s. s.col) ss))) ≡ each (λ s. s.col.name) (cond b (s ∷ project_stored us ss) (project_stored us ss))) [ true ↦ ap (λ l. s.col.name ∷ l) (stored_names us ss) | false ↦ stored_names us ss ]

abbrev names_of : List StoredCol → List Bytes
names_of ss = col_names (each (λ s. s.col) ss)

stored_in : (us : List Bytes) (ss : List StoredCol) (x : Bytes) → In x (each (λ s. s.col.name) (project_stored us ss)) → In x (names_of ss)
stored_in us ss x h = project_there us (each (λ s. s.col) ss) x (subst (λ l. In x l) (sym (stored_names us ss)) h)

stored_project :
    (us : List Bytes) (f : StoredCol → Value) (ss : List StoredCol) → all_different (names_of ss) ≡ true
    → each (λ x. look (names_of ss) (each f ss) x) (each (λ s. s.col.name) (project_stored us ss)) ≡ each f (project_stored us ss)
stored_project us f [] o = refl
stored_project us f (s ∷ ss) o =
    let p = and_parts (not (among s.col.name (names_of ss))) (all_different (names_of ss)) o in
    let rest : each (λ x. look (names_of (s ∷ ss)) (each f (s ∷ ss)) x) (each (λ s. s.col.name) (project_stored us ss)) ≡ each f (project_stored us ss) =
    each_same (λ x. look (names_of (s ∷ ss)) (each f (s ∷ ss)) x) (λ x. look (names_of ss) (each f ss) x) (each (λ s. s.col.name) (project_stored us ss)) (λ x k. ap (λ b. cond b (f s) (look (names_of ss) (each f ss) x)) (apart s.col.name (names_of ss) p.0 x (stored_in us ss x k))) ∙ stored_project us f ss p.1 in
    elim (among s.col.name us) as (λ b. each (λ x. look (names_of (s ∷ ss)) (each f (s ∷ ss)) x) (each (λ s. s.col.name) (cond b (s ∷ project_stored us ss) (project_stored us ss))) ≡ each f (cond b (s ∷ project_stored us ss) (project_stored us ss)))
    [ true ↦ ap₂ (λ v l. v ∷ l) (ap (λ b. cond b (f s) (look (names_of ss) (each f ss) s.col.name)) (same_self s.col.name)) rest | false ↦ rest ]

pub scan_project :
    (ps : Pages) (us : List Bytes) (d : Decl) → all_different (col_names (decl_cols d)) ≡ true
    → table (project_cols us (decl_cols d)) (each (row_at ps (project_stored us d.cols)) (numbers_from d.rows 0))
    ≡ project us (stored_table ps d)
scan_project ps us d o =
    ap (λ l. table (project_cols us (decl_cols d)) l)
    (sym (each_each (project_row (decl_cols d) (col_names (project_cols us (decl_cols d)))) (row_at ps d.cols) (numbers_from d.rows 0) ∙ go (numbers_from d.rows 0)))
  where
    one :
        (i : ℕ)
        → project_row (decl_cols d) (col_names (project_cols us (decl_cols d))) (row_at ps d.cols i) ≡ row_at ps (project_stored us d.cols) i
    one i =
        each_same (get (decl_cols d) (row_at ps d.cols i)) (λ x. look (names_of d.cols) (row_at ps d.cols i) x)
        (col_names (project_cols us (decl_cols d))) (λ x k. get_look (decl_cols d) (row_at ps d.cols i) x)
        ∙ (ap (λ l. each (λ x. look (names_of d.cols) (row_at ps d.cols i) x) l) (stored_names us d.cols) ∙ stored_project us (λ s. value_at ps s i) d.cols o)

    go :
        (is : List ℕ)
        → each (λ i. project_row (decl_cols d) (col_names (project_cols us (decl_cols d))) (row_at ps d.cols i)) is
        ≡ each (row_at ps (project_stored us d.cols)) is
    go [] = refl
    go (i ∷ is) = ap₂ (λ r l. r ∷ l) (one i) (go is)

module _ (ps : Pages) (b : ℕ) (q : Question) (ok : valid_decls b [] q.decls ≡ true) where
  pub scan_of : (n : Bytes) (d : Decl) → find_decl q.decls n ≡ some d → (us : List Bytes) → scan ps d us ≡ project us (stored_table ps d)
  scan_of n d e us = scan_project ps us d (decl_different ps b q ok n d e)

  pub scan_is : (s : Step) (us : List Bytes) → scan_named q.decls (scan ps) s us ≡ cut_named (catalog ps q.decls) s us
  scan_is s us = elim (named_table s) as (λ o. map_or (and_then o (find_decl q.decls)) (table [] []) (λ d. scan ps d (used_of_named (decl_cols d) s us)) ≡ map_or (and_then o (catalog ps q.decls)) (table [] []) (λ b. project (used_of_named b.cols s us) b)) [
    | none ↦ refl
    | some n ↦ (elim (find_decl q.decls n) as (λ o. find_decl q.decls n ≡ o → map_or o (table [] []) (λ d. scan ps d (used_of_named (decl_cols d) s us)) ≡ map_or (and_then o (λ d. some (stored_table ps d))) (table [] []) (λ b. project (used_of_named b.cols s us) b)) [ none ↦ λ e. refl | some d ↦ λ e. scan_of n d e (used_of_named (decl_cols d) s us) ]) refl
  ]

-- what a sound question comes to, from the table that it begins from
pub from_decl :
    (ps : Pages) (b : ℕ) (q : Question) → sound b q ≡ true
    → (d : Decl) × (u : Table) × (find_decl q.decls q.from ≡ some d) × (apply_steps (catalog ps q.decls) (stored_table ps d) q.steps ≡ some u) × (answer ps q ≡ some u)
from_decl ps b q ok =
    let a = sound_whole ps b q ok in
    (elim (find_decl q.decls q.from) as (λ o. find_decl q.decls q.from ≡ o → and_then (and_then o (λ d. some (stored_table ps d))) (λ t. apply_steps (catalog ps q.decls) t q.steps) ≡ some a.1 → (d : Decl) × (u : Table) × (find_decl q.decls q.from ≡ some d) × (apply_steps (catalog ps q.decls) (stored_table ps d) q.steps ≡ some u) × (answer ps q ≡ some u)) [
      | none ↦ λ e k. absurd (let z : ◌≡◌ {A = ℕ} 0 1 = cc in omega arith)
      | some d ↦ λ e k. (d, a.1, e, k, a.2.comes)
    ]) refl a.2.comes

pub decls_valid : (b : ℕ) (q : Question) → sound b q ≡ true → valid_decls b [] q.decls ≡ true
decls_valid b q ok =
    (and_parts (valid_decls b [] q.decls)
    (map_or (cols_of_table q.decls q.from) false (λ cs. is_some (cols_after_all q.decls cs q.steps))) ok).0

pub projected_answers : ProjectedAnswers
projected_answers ps b q ok =
    let k = decls_valid b q ok in
    let ts = catalog ps q.decls in
    let a = from_decl ps b q ok in
    let d = a.0 in
    let w = catalog_well_formed ps b q k in
    let t : ts q.from ≡ some (stored_table ps d) = ap (λ o. and_then o (λ d. some (stored_table ps d))) a.2 in
    ap (λ o. and_then o (λ d. some (projected_steps q.decls (scan ps) (decl_cols d) (projected_first ps q d) q.steps))) a.2
    ∙ (ap (λ x. some (projected_steps q.decls (scan ps) (decl_cols d) x q.steps)) (scan_of ps b q k q.from d a.2 (used q.decls (decl_cols d) q.steps))
    ∙ (ap (λ u. some u) (project_run q.decls ts (scan ps) (scan_is ps b q k) (pages_told ps q.decls) w q.steps (stored_table ps d) a.1 (w q.from (stored_table ps d) t) a.3)
    ∙ sym a.4))
