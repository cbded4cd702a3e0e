-- The pages that are read are those told beforehand.
use Rattle.std.proofs.Common.{◌≡◌, ℕ, ◌+◌, ◌*◌, true, false, ◌&&◌, List, [], ◌∷◌, ◌++◌, length, sym, refl, ap, ◌∙◌, subst, ap₂}
use mathlib.Core.Option.{some, none}
use Rattle.std.proofs.lemmas.Bool.{and_parts}
use Rattle.meaning.specs.Base.{map_or, and_then, when, is_some, Bytes, among, all_different}
use Rattle.meaning.specs.Values.{Col, col_type, same_type}
use Rattle.meaning.specs.Steps.{Decl, Step, s_keep, s_make, s_pick, s_join, s_group, s_order, s_take, s_skip, s_unite, s_distinct, find_decl, col_names, valid_cols, same_cols}
use Rattle.meaning.specs.Plan.{decl_cols, cols_of_table, cols_after, cols_after_all, add_names, intersect, used_before, used_of_named, used, named_table, of_named, pages_for, pages_used, pages_read_steps, pages_read, valid_decls}
use Rattle.projection.specs.Projected.{project_cols, project_stored, scan_pages, scan_pages_steps, ProjectedReads}
use Rattle.meaning.proofs.Names.{In, filter_true}
use Rattle.meaning.proofs.RowsAgree.{same_names}
use Rattle.meaning.proofs.TablesAlike.{some_of, valid_different}
use Rattle.meaning.proofs.Unused.{found_among, decl_valid_cols}
use Rattle.meaning.proofs.WellFormed.{when_of, step_valid, some_is}
use Rattle.projection.proofs.ByPosition.{stored_length}
use Rattle.projection.proofs.UsedExactly.{Within, in_add_names, in_one, col_there, same_es, different_add_names, different_filter, before_different, used_there, project_exact}

-- what is used is named once
pub used_different :
    (ds : List Decl) (ss : List Step) (cs fs : List Col) → valid_cols cs ≡ true → cols_after_all ds cs ss ≡ some fs
    → all_different (used ds cs ss) ≡ true
used_different ds [] cs fs k e = valid_different cs k
used_different ds (s ∷ ss) cs fs k e =
    let p = some_of (cols_after ds cs s) (λ es. cols_after_all ds es ss) fs e in
    subst (λ o. all_different (map_or o [] (λ es. used_before cs s (used ds es ss))) ≡ true) (sym p.1) (before_different cs s (used ds p.0 ss) (valid_different cs k) (used_different ds ss p.0 fs (step_valid ds cs p.0 s p.1 k) p.2))

none_kept : (cs : List Col) → project_cols [] cs ≡ []
none_kept [] = refl
none_kept (c ∷ cs) = none_kept cs

-- of the table that a step names just the columns used are read
no_cols : (cs : List Col) → length (project_cols [] cs) ≡ 0
no_cols cs = ap length (none_kept cs)

found_cols : (ds : List Decl) (n : Bytes) (d : Decl) (es : List Col) → find_decl ds n ≡ some d → cols_of_table ds n ≡ some es → es ≡ decl_cols d
found_cols ds n d es f e = let z = sym e ∙ ap (λ o. and_then o (λ d. some (decl_cols d))) f in let k : es ≡ decl_cols d = cc in k

other_exact :
    (ds : List Decl) (cs es : List Col) (s : Step) (us : List Bytes) (d : Decl) → cols_after ds cs s ≡ some es → of_named (find_decl ds) s ≡ some d
    → all_different (col_names (decl_cols d)) ≡ true → all_different us ≡ true → Within us (col_names es)
    → length (project_cols (used_of_named (decl_cols d) s us) (decl_cols d)) ≡ length (used_of_named (decl_cols d) s us)
other_exact ds cs es (s_keep x) us d e f n o w = no_cols (decl_cols d)
other_exact ds cs es (s_make y x) us d e f n o w = no_cols (decl_cols d)
other_exact ds cs es (s_pick xs) us d e f n o w = no_cols (decl_cols d)
other_exact ds cs es (s_join m x y stay) us d e f n o w =
    let p = some_of (cols_of_table ds m) (λ es. and_then (col_type cs x) (λ u. and_then (col_type es y) (λ w. when (same_type u w && valid_cols (cs ++ es)) (some (cs ++ es))))) es e in
    let q = some_of (col_type cs x) (λ u. and_then (col_type p.0 y) (λ w. when (same_type u w && valid_cols (cs ++ p.0)) (some (cs ++ p.0)))) es p.2 in
    let r = some_of (col_type p.0 y) (λ w. when (same_type q.0 w && valid_cols (cs ++ p.0)) (some (cs ++ p.0))) es q.2 in
    let there : In y (col_names (decl_cols d)) = subst (λ c. In y (col_names c)) (found_cols ds m d p.0 f p.1) (col_there p.0 y r.0 r.1) in
    project_exact (add_names (y ∷ []) (intersect us (col_names (decl_cols d)))) (decl_cols d) (different_add_names (y ∷ []) (intersect us (col_names (decl_cols d))) (different_filter (λ z. among z (col_names (decl_cols d))) us o)) n
    (in_add_names (y ∷ []) (intersect us (col_names (decl_cols d))) (col_names (decl_cols d)) (in_one y (col_names (decl_cols d)) there) (λ z k. filter_true (λ v. among v (col_names (decl_cols d))) us z k))
other_exact ds cs es (s_group xs aggs) us d e f n o w = no_cols (decl_cols d)
other_exact ds cs es (s_order ks) us d e f n o w = no_cols (decl_cols d)
other_exact ds cs es (s_take k) us d e f n o w = no_cols (decl_cols d)
other_exact ds cs es (s_skip k) us d e f n o w = no_cols (decl_cols d)
other_exact ds cs es (s_unite m) us d e f n o w =
    let p = some_of (cols_of_table ds m) (λ es. when (same_cols cs es) (some cs)) es e in
    let q = when_of (same_cols cs p.0) (some cs) es p.2 in
    let names : col_names cs ≡ col_names (decl_cols d) = same_names cs p.0 q.0 ∙ ap col_names (found_cols ds m d p.0 f p.1) in
    project_exact us (decl_cols d) o n (subst (λ l. Within us l) names (same_es cs es us q.1 w))
other_exact ds cs es s_distinct us d e f n o w = no_cols (decl_cols d)

module _ (b : ℕ) (ds : List Decl) (ok : valid_decls b [] ds ≡ true) where
  cols_valid : (n : Bytes) (d : Decl) → find_decl ds n ≡ some d → valid_cols (decl_cols d) ≡ true
  cols_valid n d e = decl_valid_cols b [] ds ok d (found_among ds n d e).0

  exact_pages :
      (us : List Bytes) (d : Decl) → length (project_cols us (decl_cols d)) ≡ length us
      → length (project_stored us d.cols) * pages_for d.rows ≡ length us * pages_for d.rows
  exact_pages us d e = ap (λ n. n * pages_for d.rows) (stored_length us d.cols ∙ e)

  step_reads :
      (cs es : List Col) (s : Step) (us : List Bytes) → cols_after ds cs s ≡ some es → all_different us ≡ true → Within us (col_names es)
      → map_or (of_named (find_decl ds) s) 0 (λ d. scan_pages d (used_of_named (decl_cols d) s us))
      ≡ map_or (of_named (find_decl ds) s) 0 (λ d. pages_used d (used_of_named (decl_cols d) s us))
  step_reads cs es s us e o w = (elim (of_named (find_decl ds) s) as (λ f. of_named (find_decl ds) s ≡ f → map_or f 0 (λ d. scan_pages d (used_of_named (decl_cols d) s us)) ≡ map_or f 0 (λ d. pages_used d (used_of_named (decl_cols d) s us))) [
    | none ↦ λ f. refl
    | some d ↦ λ f. let n = some_of (named_table s) (find_decl ds) d f in exact_pages (used_of_named (decl_cols d) s us) d (other_exact ds cs es s us d e f (valid_different (decl_cols d) (cols_valid n.0 d n.2)) o w)
  ]) refl

  steps_read :
      (ss : List Step) (cs fs : List Col) → valid_cols cs ≡ true → cols_after_all ds cs ss ≡ some fs
      → scan_pages_steps ds cs ss ≡ pages_read_steps ds cs ss
  steps_read [] cs fs k e = refl
  steps_read (s ∷ ss) cs fs k e =
      let p = some_of (cols_after ds cs s) (λ es. cols_after_all ds es ss) fs e in
      let o = step_valid ds cs p.0 s p.1 k in
      subst (λ o. map_or o 0 (λ es. map_or (of_named (find_decl ds) s) 0 (λ d. scan_pages d (used_of_named (decl_cols d) s (used ds es ss))) + scan_pages_steps ds es ss) ≡ map_or o 0 (λ es. map_or (of_named (find_decl ds) s) 0 (λ d. pages_used d (used_of_named (decl_cols d) s (used ds es ss))) + pages_read_steps ds es ss)) (sym p.1)
      (ap₂ (λ m n. m + n) (step_reads cs p.0 s (used ds p.0 ss) p.1 (used_different ds ss p.0 fs o p.2) (used_there ds ss p.0 fs p.2)) (steps_read ss p.0 fs o p.2))

  all_read :
      (n : Bytes) (ss : List Step) → map_or (cols_of_table ds n) false (λ cs. is_some (cols_after_all ds cs ss)) ≡ true
      → map_or (find_decl ds n) 0 (λ d. scan_pages d (used ds (decl_cols d) ss) + scan_pages_steps ds (decl_cols d) ss) ≡ pages_read ds n ss
  all_read n ss e = (elim (find_decl ds n) as (λ f. find_decl ds n ≡ f → map_or (and_then f (λ d. some (decl_cols d))) false (λ cs. is_some (cols_after_all ds cs ss)) ≡ true → map_or f 0 (λ d. scan_pages d (used ds (decl_cols d) ss) + scan_pages_steps ds (decl_cols d) ss) ≡ map_or f 0 (λ d. pages_used d (used ds (decl_cols d) ss) + pages_read_steps ds (decl_cols d) ss)) [
    | none ↦ λ f h. refl
    | some d ↦ λ f h. let z = some_is (cols_after_all ds (decl_cols d) ss) h in let k = cols_valid n d f in
        ap₂ (λ x y. x + y) (exact_pages (used ds (decl_cols d) ss) d (project_exact (used ds (decl_cols d) ss) (decl_cols d) (used_different ds ss (decl_cols d) z.0 k z.1) (valid_different (decl_cols d) k) (used_there ds ss (decl_cols d) z.0 z.1))) (steps_read ss (decl_cols d) z.0 k z.1)
  ]) refl e

pub projected_reads : ProjectedReads
projected_reads b q ok =
    let k = and_parts (valid_decls b [] q.decls) (map_or (cols_of_table q.decls q.from) false (λ cs. is_some (cols_after_all q.decls cs q.steps))) ok in
    all_read b q.decls k.0 q.from q.steps k.1
