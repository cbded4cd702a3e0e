-- Rows and pages in all, from the run on projected tables.
use Rattle.std.proofs.Common.{◌≡◌, ℕ, zero, suc, ◌+◌, ◌*◌, true, List, [], ◌∷◌, length, sym, refl, ap, ◌∙◌, subst, ap₂}
use mathlib.Core.Option.{Option, some, none}
use Rattle.meaning.specs.Base.{map_or, and_then, Bytes}
use Rattle.meaning.specs.Steps.{Decl, Step, Question, Table, Catalog, find_decl, col_names, project_row, apply_step, apply_steps}
use Rattle.meaning.specs.Plan.{decl_cols, cols_after, used_before, used, named_table, of_named, pages_for}
use Rattle.meaning.specs.Pages.{Pages, row_at, numbers_from, stored_table, catalog, sound}
use Rattle.meaning.specs.Theorems.{cols_if_any, WellFormed}
use Rattle.meaning.specs.Promise.{rows_steps, space_steps, whole_pages}
use Rattle.projection.specs.Projected.{project_cols, project, projected_step, projected_next, projected_first, Scan, scan, scan_named, named_amount, projected_total, projected_all, ProjectedTotals}
use Rattle.meaning.proofs.ColumnsTold.{Told, step_told, pages_told}
use Rattle.meaning.proofs.RowsAgree.{length_each}
use Rattle.meaning.proofs.TablesAlike.{some_of}
use Rattle.projection.proofs.Steps.{cut_named, project_step}
use Rattle.meaning.proofs.WellFormed.{AllWellFormed, step_well_formed, catalog_well_formed}
use Rattle.projection.proofs.WholeRun.{decls_valid, from_decl, scan_of, scan_is}

-- the same on whole tables, of which rows_steps and space_steps are two
abbrev total : (ℕ → ℕ → ℕ) → Catalog → Table → List Step → ℕ
total f ts t [] = f (length t.cols) (length t.rows)
total f ts t (s ∷ ss) =
    f (length t.cols) (length t.rows) +
    (map_or (of_named ts s) 0 (λ b. f (length b.cols) (length b.rows)) + map_or (apply_step ts t s) 0 (λ u. total f ts u ss))

opt_same : (o : Option Table) (f g : Table → ℕ) → ((t : Table) → f t ≡ g t) → map_or o 0 f ≡ map_or o 0 g
opt_same none f g h = refl
opt_same (some t) f g h = h t

rows_total : (ts : Catalog) (ss : List Step) (t : Table) → rows_steps ts t ss ≡ total (λ c r. r) ts t ss
rows_total ts [] t = refl
rows_total ts (s ∷ ss) t =
    ap (λ n. length t.rows + (map_or (of_named ts s) 0 (λ b. length b.rows) + n)) (opt_same (apply_step ts t s) _ _ (λ u. rows_total ts ss u))

space_total : (ts : Catalog) (ss : List Step) (t : Table) → space_steps ts t ss ≡ total (λ c r. c * pages_for r) ts t ss
space_total ts [] t = refl
space_total ts (s ∷ ss) t =
    ap (λ n. whole_pages t + (map_or (of_named ts s) 0 whole_pages + n)) (opt_same (apply_step ts t s) _ _ (λ u. space_total ts ss u))

module _ (f : ℕ → ℕ → ℕ) (ds : List Decl) (ts : Catalog) (sc : Scan) (named : (s : Step) (us : List Bytes) → scan_named ds sc s us ≡ cut_named ts s us) (td : Told ts ds) (tw : AllWellFormed ts) (amount : (s : Step) → map_or (of_named ts s) 0 (λ b. f (length b.cols) (length b.rows)) ≡ named_amount f ds s) where
  project_length : (us : List Bytes) (t : Table) → length t.rows ≡ length (project us t).rows
  project_length us t = sym (length_each (project_row t.cols (col_names (project_cols us t.cols))) t.rows)

  -- a run that comes to a table
  total_projected :
      (ss : List Step) (t u : Table) → WellFormed t → apply_steps ts t ss ≡ some u
      → total f ts t ss ≡ projected_total f ds sc t.cols (project (used ds t.cols ss) t) ss
  total_projected [] t u w e = ap (f (length t.cols)) (project_length (col_names t.cols) t)
  total_projected (s ∷ ss) t u w e =
      let p = some_of (apply_step ts t s) (λ v. apply_steps ts v ss) u e in
      let v = p.0 in
      let us = used ds v.cols ss in
      let c : cols_after ds t.cols s ≡ some v.cols = sym (step_told ts ds td t s) ∙ ap cols_if_any p.1 in
      ap (λ o. f (length t.cols) (length t.rows) + (map_or (of_named ts s) 0 (λ b. f (length b.cols) (length b.rows)) + map_or o 0 (λ u. total f ts u ss))) p.1
      ∙ (ap₂ (λ m n. f (length t.cols) (length t.rows) + (m + n)) (amount s)
      (total_projected ss v u (step_well_formed ts t s v tw w p.1) p.2
      ∙ (ap (λ x. projected_total f ds sc v.cols x ss) (project_step ts us t s v w tw p.1)
      ∙ ap (λ b. projected_total f ds sc v.cols (projected_step v.cols us (project (used_before t.cols s us) t) b s) ss) (sym (named s us))))
      ∙ subst (λ o. f (length t.cols) (length t.rows) + (named_amount f ds s + projected_total f ds sc v.cols (projected_next ds sc v.cols (project (used_before t.cols s us) t) s ss) ss) ≡ f (length t.cols) (length (project (map_or o [] (λ es. used_before t.cols s (used ds es ss))) t).rows) + (named_amount f ds s + map_or o 0 (λ es. projected_total f ds sc es (projected_next ds sc es (project (map_or o [] (λ es. used_before t.cols s (used ds es ss))) t) s ss) ss))) (sym c)
      (ap (λ n. f (length t.cols) n + (named_amount f ds s + projected_total f ds sc v.cols (projected_next ds sc v.cols (project (used_before t.cols s us) t) s ss) ss)) (project_length (used_before t.cols s us) t)))

count_length : (k n : ℕ) → length (numbers_from k n) ≡ k
count_length zero n = refl
count_length (suc k) n = ap suc (count_length k (suc n))

decl_amount :
    (f : ℕ → ℕ → ℕ) (ps : Pages) (o : Option Decl)
    → map_or (and_then o (λ d. some (stored_table ps d))) 0 (λ b. f (length b.cols) (length b.rows))
    ≡ map_or o 0 (λ d. f (length d.cols) d.rows)
decl_amount f ps none = refl
decl_amount f ps (some d) =
    ap₂ f (length_each (λ s. s.col) d.cols) (length_each (row_at ps d.cols) (numbers_from d.rows 0) ∙ count_length d.rows 0)

named_amounts :
    (f : ℕ → ℕ → ℕ) (ps : Pages) (ds : List Decl) (s : Step)
    → map_or (of_named (catalog ps ds) s) 0 (λ b. f (length b.cols) (length b.rows)) ≡ named_amount f ds s
named_amounts f ps ds s =
    elim (named_table s) as (λ o. map_or (and_then o (catalog ps ds)) 0 (λ b. f (length b.cols) (length b.rows)) ≡ map_or (and_then o (find_decl ds)) 0 (λ d. f (length d.cols) d.rows)) [ none ↦ refl | some n ↦ decl_amount f ps (find_decl ds n) ]

all_projected :
    (f : ℕ → ℕ → ℕ) (ps : Pages) (b : ℕ) (q : Question) → sound b q ≡ true
    → map_or (catalog ps q.decls q.from) 0 (λ t. total f (catalog ps q.decls) t q.steps) ≡ projected_all f ps q
all_projected f ps b q ok =
    let k = decls_valid b q ok in
    let ts = catalog ps q.decls in
    let a = from_decl ps b q ok in
    let d = a.0 in
    let w = catalog_well_formed ps b q k in
    let t : ts q.from ≡ some (stored_table ps d) = ap (λ o. and_then o (λ d. some (stored_table ps d))) a.2 in
    ap (λ o. map_or o 0 (λ t. total f ts t q.steps)) t
    ∙ (total_projected f q.decls ts (scan ps) (scan_is ps b q k) (pages_told ps q.decls) w (named_amounts f ps q.decls) q.steps (stored_table ps d) a.1 (w q.from (stored_table ps d) t) a.3
    ∙ (ap (λ x. projected_total f q.decls (scan ps) (decl_cols d) x q.steps) (sym (scan_of ps b q k q.from d a.2 (used q.decls (decl_cols d) q.steps)))
    ∙ ap (λ o. map_or o 0 (λ d. projected_total f q.decls (scan ps) (decl_cols d) (projected_first ps q d) q.steps)) (sym a.2)))

pub projected_totals : ProjectedTotals
projected_totals ps b q ok =
    (opt_same (catalog ps q.decls q.from) _ _ (λ t. rows_total (catalog ps q.decls) q.steps t) ∙ all_projected (λ c r. r) ps b q ok, opt_same (catalog ps q.decls q.from) _ _ (λ t. space_total (catalog ps q.decls) q.steps t) ∙ all_projected (λ c r. c * pages_for r) ps b q ok)
