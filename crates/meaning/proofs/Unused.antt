-- Pages that agree in used columns have one answer.
use Rattle.std.proofs.Common.{◌≡◌, ℕ, zero, suc, ◌+◌, ◌<◌, ◌≤◌, true, false, cond, not, ◌&&◌, List, [], ◌∷◌, sym, refl, ap, ◌∙◌, subst, arith}
use mathlib.Core.Option.{Option, some, none}
use Rattle.std.proofs.lemmas.Bool.{and_parts}
use Rattle.meaning.specs.Base.{map_or, and_then, is_some, Bytes, same_bytes, among, each, Member, here, there}
use Rattle.meaning.specs.Values.{Value, null, cell_value, Col, Row}
use Rattle.meaning.specs.Steps.{StoredCol, Decl, Step, s_keep, s_make, s_pick, s_join, s_group, s_order, s_take, s_skip, s_unite, s_distinct, Question, Table, table, col_names, find_decl, valid_cols, apply_steps}
use Rattle.meaning.specs.Plan.{decl_cols, cols_of_table, cols_after, cols_after_all, add_names, used_of_named, used, used_by_steps, used_anywhere, names_table, valid_decls, lie_below}
use Rattle.meaning.specs.Pages.{Pages, cell_at, value_at, row_at, numbers_from, stored_table, catalog, answer}
use Rattle.meaning.specs.Theorems.{cols_if_any, AgreeOnUsed, UnusedNoMatter}
use Rattle.meaning.proofs.ColumnsTold.{pages_told}
use Rattle.meaning.proofs.Names.{In, same_is, same_self, add_names_left, add_names_right, look, get_look}
use Rattle.meaning.proofs.Pairs.{Pairs, p_none, p_more}
use Rattle.meaning.proofs.RowsAgree.{Agree, length_each}
use Rattle.meaning.proofs.TablesAlike.{Alike, alike_none, alike_some, NamedAlike, AllNamedAlike, valid_different, steps_alike}

-- a row of a table, by its stored columns
stored_look :
    (f g : StoredCol → Value) (x : Bytes) (ss : List StoredCol) → ((s : StoredCol) → Member s ss → same_bytes x s.col.name ≡ true → f s ≡ g s)
    → look (col_names (each (λ s. s.col) ss)) (each f ss) x ≡ look (col_names (each (λ s. s.col) ss)) (each g ss) x
stored_look f g x [] h = refl
stored_look f g x (s ∷ ss) h =
    (elim (same_bytes x s.col.name) as (λ b. same_bytes x s.col.name ≡ b → cond b (f s) (look (col_names (each (λ s. s.col) ss)) (each f ss) x) ≡ cond b (g s) (look (col_names (each (λ s. s.col) ss)) (each g ss) x)) [ true ↦ λ e. h s here e | false ↦ λ e. stored_look f g x ss (λ t k. h t (there k)) ]) refl

count_pairs :
    (R : Row → Row → Type 0) (f g : ℕ → Row) (m : ℕ) → ((i : ℕ) → i < m → R (f i) (g i)) → (k n : ℕ) → k + n ≤ m
    → Pairs R (each f (numbers_from k n)) (each g (numbers_from k n))
count_pairs R f g m h zero n l = p_none
count_pairs R f g m h (suc k) n l = p_more (h n (omega arith)) (count_pairs R f g m h k (suc n) (omega arith))

pub found_among : (ds : List Decl) (n : Bytes) (d : Decl) → find_decl ds n ≡ some d → Member d ds × (d.name ≡ n)
found_among [] n d e = absurd (let z : ◌≡◌ {A = ℕ} 0 1 = cc in omega arith)
found_among (c ∷ ds) n d e =
    (elim (same_bytes c.name n) as (λ b. same_bytes c.name n ≡ b → cond b (some c) (find_decl ds n) ≡ some d → Member d (c ∷ ds) × (d.name ≡ n)) [ true ↦ λ f g. let k : c ≡ d = cc in (subst (λ a. Member a (c ∷ ds)) k here, subst (λ a. a.name ≡ n) k (same_is c.name n f)) | false ↦ λ f g. let r = found_among ds n d g in (there r.0, r.1) ]) refl
    e

pub decl_valid_cols :
    (b : ℕ) (seen : List Bytes) (ds : List Decl) → valid_decls b seen ds ≡ true → (d : Decl) → Member d ds → valid_cols (decl_cols d) ≡ true
decl_valid_cols b seen [] e c k = elim k [ ]
decl_valid_cols b seen (d ∷ ds) e c here =
    (and_parts (valid_cols (decl_cols d)) (lie_below b d.rows d.cols && valid_decls b (d.name ∷ seen) ds)
    (and_parts (not (among d.name seen)) (valid_cols (decl_cols d) && (lie_below b d.rows d.cols && valid_decls b (d.name ∷ seen) ds)) e).1
    ).0
decl_valid_cols b seen (d ∷ ds) e c (there k) =
    decl_valid_cols b (d.name ∷ seen) ds
    (and_parts (lie_below b d.rows d.cols) (valid_decls b (d.name ∷ seen) ds) (and_parts (valid_cols (decl_cols d)) (lie_below b d.rows d.cols && valid_decls b (d.name ∷ seen) ds) (and_parts (not (among d.name seen)) (valid_cols (decl_cols d) && (lie_below b d.rows d.cols && valid_decls b (d.name ∷ seen) ds)) e).1).1).1
    c k

-- a table on two lots of pages whose words agree in the columns us
pub table_agree :
    (ps qs : Pages) (d : Decl) (us : List Bytes)
    → ((s : StoredCol) (i : ℕ) → i < d.rows → Member s d.cols → In s.col.name us → cell_at ps s.page i ≡ cell_at qs s.page i)
    → Pairs (Agree us (decl_cols d) (decl_cols d)) (stored_table ps d).rows (stored_table qs d).rows
table_agree ps qs d us h =
    count_pairs (Agree us (decl_cols d) (decl_cols d)) (row_at ps d.cols) (row_at qs d.cols) d.rows one d.rows 0 (omega arith)
  where
    one : (i : ℕ) → i < d.rows → Agree us (decl_cols d) (decl_cols d) (row_at ps d.cols i) (row_at qs d.cols i)
    one i l =
        record { wide = length_each (λ s. value_at ps s i) d.cols ∙ sym (length_each (λ s. s.col) d.cols); wide' = length_each (λ s. value_at qs s i) d.cols ∙ sym (length_each (λ s. s.col) d.cols); shows = λ x k. get_look (decl_cols d) (row_at ps d.cols i) x ∙ (stored_look (λ s. value_at ps s i) (λ s. value_at qs s i) x d.cols (λ s a e. ap (λ o. map_or (and_then o (cell_value s.col.ty)) null (λ v. v)) (h s i l a (subst (λ w. In w us) (same_is x s.col.name e) k))) ∙ sym (get_look (decl_cols d) (row_at qs d.cols i) x)) }

module _ (ps qs : Pages) (b : ℕ) (q : Question) (ok : valid_decls b [] q.decls ≡ true) (ag : AgreeOnUsed ps qs q) where
  abbrev Fit : (Bytes → List Bytes) → Type 0
  Fit U = (n : Bytes) (x : Bytes) → In x (U n) → In x (used_anywhere q.decls q.from q.steps n)

  table_alike :
      (n : Bytes) (f : List Col → List Bytes)
      → ((d : Decl) → find_decl q.decls n ≡ some d → (x : Bytes) → In x (f (decl_cols d)) → In x (used_anywhere q.decls q.from q.steps n))
      → Alike f (catalog ps q.decls n) (catalog qs q.decls n)
  table_alike n f h =
      (elim (find_decl q.decls n) as (λ o. find_decl q.decls n ≡ o → Alike f (and_then o (λ d. some (stored_table ps d))) (and_then o (λ d. some (stored_table qs d)))) [ none ↦ λ e. alike_none | some d ↦ λ e. let a = found_among q.decls n d e in alike_some (valid_different (decl_cols d) (decl_valid_cols b [] q.decls ok d a.0)) (table_agree ps qs d (f (decl_cols d)) (λ s i l k u. ag d s i l a.0 k (subst (λ w. In s.col.name (used_anywhere q.decls q.from q.steps w)) (sym a.1) (h d e s.col.name u)))) ]) refl

  used_at :
      (n : Bytes) (cs es : List Col) (s : Step) (ss : List Step) → cols_after q.decls cs s ≡ some es → names_table s n ≡ true → (d : Decl)
      → find_decl q.decls n ≡ some d → (x : Bytes) → In x (used_of_named (decl_cols d) s (used q.decls es ss))
      → In x (used_by_steps q.decls cs (s ∷ ss) n)
  used_at n cs es s ss e m d f x k =
      subst (λ o. In x (map_or o [] (λ es. add_names (cond (names_table s n) (map_or (cols_of_table q.decls n) [] (λ fs. used_of_named fs s (used q.decls es ss))) []) (used_by_steps q.decls es ss n))))
      (sym e)
      (add_names_left (cond (names_table s n) (map_or (cols_of_table q.decls n) [] (λ fs. used_of_named fs s (used q.decls es ss))) []) (used_by_steps q.decls es ss n) x (subst (λ b. In x (cond b (map_or (cols_of_table q.decls n) [] (λ fs. used_of_named fs s (used q.decls es ss))) [])) (sym m) (subst (λ o. In x (map_or (and_then o (λ d. some (decl_cols d))) [] (λ fs. used_of_named fs s (used q.decls es ss)))) (sym f) k)))

  used_on :
      (n : Bytes) (cs es : List Col) (s : Step) (ss : List Step) → cols_after q.decls cs s ≡ some es → (x : Bytes)
      → In x (used_by_steps q.decls es ss n) → In x (used_by_steps q.decls cs (s ∷ ss) n)
  used_on n cs es s ss e x k =
      subst (λ o. In x (map_or o [] (λ es. add_names (cond (names_table s n) (map_or (cols_of_table q.decls n) [] (λ fs. used_of_named fs s (used q.decls es ss))) []) (used_by_steps q.decls es ss n))))
      (sym e)
      (add_names_right (cond (names_table s n) (map_or (cols_of_table q.decls n) [] (λ fs. used_of_named fs s (used q.decls es ss))) []) (used_by_steps q.decls es ss n) x k)

  named_alike :
      (cs es : List Col) (s : Step) (ss : List Step) → cols_after q.decls cs s ≡ some es → Fit (used_by_steps q.decls cs (s ∷ ss))
      → NamedAlike (catalog ps q.decls) (catalog qs q.decls) cs s (used q.decls es ss)
  named_alike cs es (s_keep x) ss e f = tt
  named_alike cs es (s_make y x) ss e f = tt
  named_alike cs es (s_pick xs) ss e f = tt
  named_alike cs es (s_join n x y stay) ss e f =
      table_alike n (λ fs. used_of_named fs (s_join n x y stay) (used q.decls es ss))
      (λ d g z k. f n z (used_at n cs es (s_join n x y stay) ss e (same_self n) d g z k))
  named_alike cs es (s_group xs aggs) ss e f = tt
  named_alike cs es (s_order ks) ss e f = tt
  named_alike cs es (s_take n) ss e f = tt
  named_alike cs es (s_skip n) ss e f = tt
  named_alike cs es (s_unite n) ss e f =
      table_alike n (λ fs. used q.decls es ss) (λ d g z k. f n z (used_at n cs es (s_unite n) ss e (same_self n) d g z k))
  named_alike cs es s_distinct ss e f = tt

  places :
      (ss : List Step) (cs : List Col) → Fit (used_by_steps q.decls cs ss)
      → AllNamedAlike q.decls (catalog ps q.decls) (catalog qs q.decls) cs ss
  places [] cs f = tt
  places (s ∷ ss) cs f = λ es e. (named_alike cs es s ss e f, places ss es (λ n x k. f n x (used_on n cs es s ss e x k)))

  from_in : (cs : List Col) → cols_of_table q.decls q.from ≡ some cs → Fit (used_by_steps q.decls cs q.steps)
  from_in cs e n x k =
      subst (λ o. In x (map_or o [] (λ cs. add_names (cond (same_bytes q.from n) (used q.decls cs q.steps) []) (used_by_steps q.decls cs q.steps n))))
      (sym e) (add_names_right (cond (same_bytes q.from n) (used q.decls cs q.steps) []) (used_by_steps q.decls cs q.steps n) x k)

  from_used :
      (d : Decl) → find_decl q.decls q.from ≡ some d → (x : Bytes) → In x (used q.decls (decl_cols d) q.steps)
      → In x (used_anywhere q.decls q.from q.steps q.from)
  from_used d e x k =
      subst (λ o. In x (map_or (and_then o (λ d. some (decl_cols d))) [] (λ cs. add_names (cond (same_bytes q.from q.from) (used q.decls cs q.steps) []) (used_by_steps q.decls cs q.steps q.from))))
      (sym e)
      (add_names_left (cond (same_bytes q.from q.from) (used q.decls (decl_cols d) q.steps) []) (used_by_steps q.decls (decl_cols d) q.steps q.from) x (subst (λ b. In x (cond b (used q.decls (decl_cols d) q.steps) [])) (sym (same_self q.from)) k))

  begun :
      (o p : Option Table) → Alike (λ cs. used q.decls cs q.steps) o p
      → ((cs : List Col) (rs : List Row) → o ≡ some (table cs rs) → Fit (used_by_steps q.decls cs q.steps))
      → and_then o (λ t. apply_steps (catalog ps q.decls) t q.steps) ≡ and_then p (λ t. apply_steps (catalog qs q.decls) t q.steps)
  begun o p alike_none f = refl
  begun o p (alike_some {cs = cs} {rs = rs} {ss = ss} n h) f =
      steps_alike q.decls (catalog ps q.decls) (catalog qs q.decls) (pages_told ps q.decls) (pages_told qs q.decls) q.steps cs rs ss
      n h (places q.steps cs (f cs rs refl))

  from_cols : (cs : List Col) (rs : List Row) → catalog ps q.decls q.from ≡ some (table cs rs) → cols_of_table q.decls q.from ≡ some cs
  from_cols cs rs e = sym (pages_told ps q.decls q.from) ∙ ap cols_if_any e

  pub one_answer : answer ps q ≡ answer qs q
  one_answer =
      begun (catalog ps q.decls q.from) (catalog qs q.decls q.from)
      (table_alike q.from (λ cs. used q.decls cs q.steps) from_used) (λ cs rs e. from_in cs (from_cols cs rs e))

pub unused_no_matter : UnusedNoMatter
unused_no_matter ps qs b q ok ag =
    one_answer ps qs b q
    (and_parts (valid_decls b [] q.decls) (map_or (cols_of_table q.decls q.from) false (λ cs. is_some (cols_after_all q.decls cs q.steps))) ok).0
    ag
