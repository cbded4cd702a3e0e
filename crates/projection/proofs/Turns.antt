-- Turn by turn; and pages below the border that stay.
use Rattle.std.proofs.Common.{◌≡◌, ℕ, zero, suc, ◌+◌, ◌/◌, ◌%◌, ◌<◌, ◌≤◌, true, false, cond, not, ◌&&◌, leb, List, [], ◌∷◌, length, take, sym, refl, ap, ◌∙◌, subst, ap₂, arith, leb-true}
use mathlib.Core.Option.{some, none}
use Rattle.std.proofs.lemmas.Bool.{and_parts}
use Rattle.meaning.specs.Base.{map_or, and_then, is_some, nth, Bytes, among, each, Member, here, there}
use Rattle.meaning.specs.Values.{null, cell_value, Col}
use Rattle.meaning.specs.Steps.{StoredCol, Decl, Step, Question, Table, table, find_decl, valid_cols}
use Rattle.meaning.specs.Plan.{decl_cols, cols_after, cols_after_all, used, used_of_named, named_table, of_named, valid_decls, lie_below, pages_for}
use Rattle.meaning.specs.Pages.{Pages, cell_at, row_at, numbers_from, stored_table, catalog, sound, answer}
use Rattle.meaning.specs.Promise.{Kept}
use Rattle.projection.specs.Projected.{project_cols, project_stored, projected_step, projected_next, projected_steps, projected_first, scan, scan_named}
use Rattle.projection.specs.Course.{Run, run_start, run_step, run_turn, Running}
use Rattle.meaning.proofs.TablesAlike.{some_of}
use Rattle.meaning.proofs.WellFormed.{some_is}
use Rattle.meaning.specs.Theorems.{cols_if_any}
use Rattle.meaning.proofs.ColumnsTold.{steps_told, pages_told}
use Rattle.projection.proofs.WholeRun.{decls_valid, from_decl, projected_answers}
use Rattle.meaning.proofs.Unused.{found_among}

-- pages below the border stay: so do the tables
kept_page : (b : ℕ) (ps qs : Pages) (p : ℕ) → take b qs ≡ take b ps → p < b → nth qs p ≡ nth ps p
kept_page b ps qs p e l = sym (of b qs p l) ∙ (ap (λ x. nth x p) e ∙ of b ps p l)
  where
    of : (b : ℕ) (ps : Pages) (p : ℕ) → p < b → nth (take b ps) p ≡ nth ps p
    of zero ps p l = absurd (omega arith)
    of (suc b) [] p l = refl
    of (suc b) (x ∷ ps) zero l = refl
    of (suc b) (x ∷ ps) (suc p) l = of b ps p (omega arith)

decl_fit :
    (b : ℕ) (names : List Bytes) (ds : List Decl) → valid_decls b names ds ≡ true → (d : Decl) → Member d ds → lie_below b d.rows d.cols ≡ true
decl_fit b s [] e d k = elim k [ ]
decl_fit b s (d ∷ ds) e c here =
    (and_parts (lie_below b d.rows d.cols) (valid_decls b (d.name ∷ s) ds)
    (and_parts (valid_cols (decl_cols d)) (lie_below b d.rows d.cols && valid_decls b (d.name ∷ s) ds) (and_parts (not (among d.name s)) (valid_cols (decl_cols d) && (lie_below b d.rows d.cols && valid_decls b (d.name ∷ s) ds)) e).1).1
    ).0
decl_fit b s (d ∷ ds) e c (there k) =
    decl_fit b (d.name ∷ s) ds
    (and_parts (lie_below b d.rows d.cols) (valid_decls b (d.name ∷ s) ds) (and_parts (valid_cols (decl_cols d)) (lie_below b d.rows d.cols && valid_decls b (d.name ∷ s) ds) (and_parts (not (among d.name s)) (valid_cols (decl_cols d) && (lie_below b d.rows d.cols && valid_decls b (d.name ∷ s) ds)) e).1).1).1
    c k

module _ (b : ℕ) (ps qs : Pages) (e : take b qs ≡ take b ps) where
  kept_word : (p n i : ℕ) → p + pages_for n ≤ b → i < n → cell_at qs p i ≡ cell_at ps p i
  kept_word p n i h l = ap (λ o. and_then o (λ ws. nth ws (i % 512))) (kept_page b ps qs (p + i / 512) e (omega arith))

  kept_cells :
      (us : List Bytes) (n i : ℕ) → i < n → (ss : List StoredCol) → lie_below b n ss ≡ true
      → row_at qs (project_stored us ss) i ≡ row_at ps (project_stored us ss) i
  kept_cells us n i l [] h = refl
  kept_cells us n i l (s ∷ ss) h =
      let p = and_parts (leb (s.page + pages_for n) b) (lie_below b n ss) h in
      let f : s.page + pages_for n ≤ b = leb-true (s.page + pages_for n) b p.0 in
      elim (among s.col.name us) as (λ k. row_at qs (cond k (s ∷ project_stored us ss) (project_stored us ss)) i ≡ row_at ps (cond k (s ∷ project_stored us ss) (project_stored us ss)) i) [ true ↦ ap₂ (λ v r. v ∷ r) (ap (λ o. map_or (and_then o (cell_value s.col.ty)) null (λ v. v)) (kept_word s.page n i f l)) (kept_cells us n i l ss p.1) | false ↦ kept_cells us n i l ss p.1 ]

  kept_rows :
      (us : List Bytes) (n : ℕ) (ss : List StoredCol) → lie_below b n ss ≡ true → (k m : ℕ) → k + m ≤ n
      → each (row_at qs (project_stored us ss)) (numbers_from k m) ≡ each (row_at ps (project_stored us ss)) (numbers_from k m)
  kept_rows us n ss h zero m l = refl
  kept_rows us n ss h (suc k) m l = ap₂ (λ r x. r ∷ x) (kept_cells us n m (omega arith) ss h) (kept_rows us n ss h k (suc m) (omega arith))

pub kept_scan :
    (b : ℕ) (ps qs : Pages) (ds : List Decl) → valid_decls b [] ds ≡ true → Kept ps qs b → (s : Step) (us : List Bytes)
    → scan_named ds (scan qs) s us ≡ scan_named ds (scan ps) s us
kept_scan b ps qs ds ok k s us = (elim (of_named (find_decl ds) s) as (λ o. of_named (find_decl ds) s ≡ o → map_or o (table [] []) (λ d. scan qs d (used_of_named (decl_cols d) s us)) ≡ map_or o (table [] []) (λ d. scan ps d (used_of_named (decl_cols d) s us))) [
  | none ↦ λ e. refl
  | some d ↦ λ e. let n = some_of (named_table s) (find_decl ds) d e in let vs = used_of_named (decl_cols d) s us in
      ap (λ l. table (project_cols vs (decl_cols d)) l) (kept_rows b ps qs k.1 vs d.rows d.cols (decl_fit b [] ds ok d (found_among ds n.0 d n.2).0) d.rows 0 (omega arith))
]) refl

-- so a turn comes to the same on both
kept_step :
    (b : ℕ) (ps qs : Pages) (ds : List Decl) → valid_decls b [] ds ≡ true → Kept ps qs b → (h : Run) (rest : List Step)
    → run_step ds (scan qs) h rest ≡ run_step ds (scan ps) h rest
kept_step b ps qs ds ok k h [] = refl
kept_step b ps qs ds ok k h (s ∷ ss) = elim (cols_after ds h.columns s) as (λ o. map_or o h (λ es. record { columns = es; held = projected_next ds (scan qs) es h.held s ss; rest = ss }) ≡ map_or o h (λ es. record { columns = es; held = projected_next ds (scan ps) es h.held s ss; rest = ss })) [
  | none ↦ refl
  | some es ↦ ap (λ x. record { columns = es; held = projected_step es (used ds es ss) h.held x s; rest = ss }) (kept_scan b ps qs ds ok k s (used ds es ss))
]

pub kept_turn :
    (b : ℕ) (ps qs : Pages) (q : Question) → sound b q ≡ true → Kept ps qs b → (h : Run)
    → run_turn q.decls (scan qs) h ≡ run_turn q.decls (scan ps) h
kept_turn b ps qs q ok k h = kept_step b ps qs q.decls (decls_valid b q ok) k h h.rest

-- a run
pub start_is :
    (ps : Pages) (q : Question) (d : Decl) → find_decl q.decls q.from ≡ some d
    → run_start ps q ≡ record { columns = decl_cols d; held = projected_first ps q d; rest = q.steps }
start_is ps q d e =
    ap (λ o. map_or o (record { columns = []; held = table [] []; rest = [] }) (λ d. record { columns = decl_cols d; held = projected_first ps q d; rest = q.steps }))
    e

pub running_start : (ps : Pages) (b : ℕ) (q : Question) → sound b q ≡ true → Running q ps 0 (run_start ps q)
running_start ps b q ok =
    let a = from_decl ps b q ok in
    let d = a.0 in
    let told : cols_after_all q.decls (decl_cols d) q.steps ≡ some a.1.cols = sym (steps_told (catalog ps q.decls) q.decls (pages_told ps q.decls) (stored_table ps d) q.steps) ∙ ap cols_if_any a.3 in
    subst (λ h. Running q ps 0 h) (sym (start_is ps q d a.2)) (record {
      comes =
          sym (ap (λ o. and_then o (λ d. some (projected_steps q.decls (scan ps) (decl_cols d) (projected_first ps q d) q.steps))) a.2)
          ∙ projected_answers ps b q ok;
      fits = ap (λ o. is_some o) told;
      left = omega arith;
    })

go_on :
    (q : Question) (ps : Pages) (i : ℕ) (cs : List Col) (t : Table) (rest : List Step) → i < length q.steps
    → Running q ps i (record { columns = cs; held = t; rest = rest })
    → Running q ps (i + 1) (run_step q.decls (scan ps) (record { columns = cs; held = t; rest = rest }) rest)
go_on q ps i cs t [] l g = absurd (omega (arith, g.left))
go_on q ps i cs t (s ∷ ss) l g =
    let z = some_is (cols_after_all q.decls cs (s ∷ ss)) g.fits in
    let p = some_of (cols_after q.decls cs s) (λ es. cols_after_all q.decls es ss) z.0 z.1 in
    let es = p.0 in
    subst (λ o. Running q ps (i + 1) (map_or o (record { columns = cs; held = t; rest = s ∷ ss }) (λ es. record { columns = es; held = projected_next q.decls (scan ps) es t s ss; rest = ss }))) (sym p.1)
    (record {
      comes =
          sym (ap (λ o. some (map_or o t (λ es. projected_steps q.decls (scan ps) es (projected_next q.decls (scan ps) es t s ss) ss))) p.1)
          ∙ g.comes;
      fits = ap (λ o. is_some o) p.2;
      left = omega (arith, g.left);
    })

pub running_on :
    (q : Question) (ps : Pages) (i : ℕ) (h : Run) → i < length q.steps → Running q ps i h → Running q ps (i + 1) (run_turn q.decls (scan ps) h)
running_on q ps i h l g = go_on q ps i h.columns h.held h.rest l g

no_more :
    (q : Question) (ps : Pages) (cs : List Col) (t : Table) (rest : List Step) → length rest ≡ 0
    → some (projected_steps q.decls (scan ps) cs t rest) ≡ answer ps q → answer ps q ≡ some t
no_more q ps cs t [] l e = sym e
no_more q ps cs t (s ∷ ss) l e = absurd (omega arith)

pub running_end : (q : Question) (ps : Pages) (i : ℕ) (h : Run) → length q.steps ≤ i → Running q ps i h → answer ps q ≡ some h.held
running_end q ps i h l g = no_more q ps h.columns h.held h.rest (omega (arith, g.left)) g.comes

pub kept_on : (ps qs rs : Pages) (b : ℕ) → Kept ps qs b → Kept qs rs b → Kept ps rs b
kept_on ps qs rs b h k = (k.0 ∙ h.0, k.1 ∙ h.1)

pub running_turn :
    (b : ℕ) (q : Question) (ps qs : Pages) (i : ℕ) (h h2 : Run) → sound b q ≡ true → Kept ps qs b → i < length q.steps → Running q ps i h
    → h2 ≡ run_turn q.decls (scan qs) h → Running q ps (i + 1) h2
running_turn b q ps qs i h h2 ok k l g e = subst (λ x. Running q ps (i + 1) x) (sym (e ∙ kept_turn b ps qs q ok k h)) (running_on q ps i h l g)
