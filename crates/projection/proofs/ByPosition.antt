-- What the steps on projected tables come down to, by places and cells.
use Rattle.std.proofs.Common.{◌≡◌, ℕ, suc, ◌*◌, ◌≤◌, Bool, true, false, cond, not, ◌||◌, List, [], ◌∷◌, ◌++◌, length, take, sym, refl, ap, ◌∙◌, subst, ap₂, ⊎_elim, mul-le-mul_right, arith}
use mathlib.Core.Option.{Option, some, none}
use Rattle.std.proofs.lemmas.Bool.{and_parts, and_from, or_cases, not_from_false, not-true, false≢true}
use Rattle.meaning.specs.Base.{map_or, and_then, nth, Bytes, same_bytes, among, all_different, each, filter, flat_map, Every}
use Rattle.meaning.specs.Values.{Value, null, t_num, Col, Row, get, eval}
use Rattle.meaning.specs.Steps.{StoredCol, Decl, NamedAgg, s_group, Table, col_names, project_row, same_row, aggregate, group_rows, group_keys, matches, or_null_row}
use Rattle.meaning.specs.Plan.{intersect, pages_for, decl_cols}
use Rattle.meaning.specs.Theorems.{WellFormed}
use Rattle.projection.specs.Projected.{col_place, project_cols, project_stored, project, projected_rows}
use Rattle.projection.specs.Cells.{GetByPlace, PlaceProjected, AllProjected, MakeByCells, JoinByCells, GroupByCells, agg_col_names, aggs_used}
use Rattle.meaning.proofs.Names.{In, bool_ext, apart, same_is, same_self, in_first, in_later, filter_in, look, get_look, names_append, names_length}
use Rattle.meaning.proofs.Pairs.{each_append}
use Rattle.meaning.proofs.RowsAgree.{each_same, length_each, get_append, every_each, keys_wide}
use Rattle.meaning.proofs.TablesAlike.{different_apart, some_of}
use Rattle.projection.proofs.Steps.{project_names, each_each}

-- no more columns are read than names are used
remove : Bytes → List Bytes → List Bytes
remove x [] = []
remove x (u ∷ us) = cond (same_bytes x u) us (u ∷ remove x us)

remove_length : (x : Bytes) (us : List Bytes) → In x us → length us ≡ suc (length (remove x us))
unfolding remove
remove_length x [] h = absurd (false≢true h)
remove_length x (u ∷ us) h =
    (elim (same_bytes x u) as (λ b. (b || among x us) ≡ true → suc (length us) ≡ suc (length (cond b us (u ∷ remove x us)))) [ true ↦ λ k. refl | false ↦ λ k. ap suc (remove_length x us k) ]) h

remove_among : (x y : Bytes) → same_bytes y x ≡ false → (us : List Bytes) → among y us ≡ among y (remove x us)
unfolding remove
remove_among x y e [] = refl
remove_among x y e (u ∷ us) =
    (elim (same_bytes x u) as (λ b. same_bytes x u ≡ b → among y (u ∷ us) ≡ among y (cond b us (u ∷ remove x us))) [ true ↦ λ f. ap (λ b. b || among y us) (ap (λ z. same_bytes y z) (sym (same_is x u f)) ∙ e) | false ↦ λ f. ap (λ b. same_bytes y u || b) (remove_among x y e us) ]) refl

intersect_same : (us vs xs : List Bytes) → ((x : Bytes) → In x xs → among x us ≡ among x vs) → intersect xs us ≡ intersect xs vs
intersect_same us vs [] h = refl
intersect_same us vs (x ∷ xs) h = ap₂ (λ b l. cond b (x ∷ l) l) (h x (in_first x xs)) (intersect_same us vs xs (λ y k. h y (in_later y x xs k)))

pub intersect_length : (xs us : List Bytes) → all_different xs ≡ true → length (intersect xs us) ≤ length us
intersect_length [] us o = omega arith
intersect_length (x ∷ xs) us o =
    let p = and_parts (not (among x xs)) (all_different xs) o in
    (elim (among x us) as (λ b. among x us ≡ b → length (cond b (x ∷ intersect xs us) (intersect xs us)) ≤ length us) [
      | true ↦ λ e. let s : intersect xs us ≡ intersect xs (remove x us) = intersect_same us (remove x us) xs (λ y k. remove_among x y (apart x xs p.0 y k) us) in
          let l : length (intersect xs us) ≡ length (intersect xs (remove x us)) = ap length s in
          omega (arith, l, remove_length x us e, intersect_length xs (remove x us) p.1)
      | false ↦ λ e. intersect_length xs us p.1
    ]) refl

pub project_length : (us : List Bytes) (cs : List Col) → all_different (col_names cs) ≡ true → length (project_cols us cs) ≤ length us
project_length us cs o = omega (arith, names_length (project_cols us cs), ap length (project_names us cs), intersect_length (col_names cs) us o)

pub stored_length : (us : List Bytes) (ss : List StoredCol) → length (project_stored us ss) ≡ length (project_cols us (each (λ s. s.col) ss))
stored_length us [] = refl
stored_length us (s ∷ ss) =
    elim (among s.col.name us) as (λ b. length (cond b (s ∷ project_stored us ss) (project_stored us ss)) ≡ length (cond b (s.col ∷ project_cols us (each (λ s. s.col) ss)) (project_cols us (each (λ s. s.col) ss)))) [ true ↦ ap suc (stored_length us ss) | false ↦ stored_length us ss ]

-- the pages of the columns that are read, against what pages_read has for the place
pub pages_bound :
    (us : List Bytes) (d : Decl) → all_different (col_names (decl_cols d)) ≡ true
    → length (project_stored us d.cols) * pages_for d.rows ≤ length us * pages_for d.rows
pages_bound us d o =
    mul-le-mul_right (pages_for d.rows)
    (let l : length (project_stored us d.cols) ≤ length us = omega (arith, stored_length us d.cols, project_length us (decl_cols d) o) in l)

-- a value by its place
none_there : (o : Option ℕ) → map_or (and_then o (nth {A = Value} [])) null (λ v. v) ≡ null
none_there none = refl
none_there (some i) = refl

one_on :
    (o : Option ℕ) (v : Value) (r : Row)
    → map_or (and_then o (nth r)) null (λ v. v) ≡ map_or (and_then (and_then o (λ i. some (suc i))) (nth (v ∷ r))) null (λ v. v)
one_on none v r = refl
one_on (some i) v r = refl

pub get_by_place : GetByPlace
get_by_place [] r x = refl
get_by_place (c ∷ cs) [] x = sym (none_there (col_place (c ∷ cs) x))
get_by_place (c ∷ cs) (v ∷ r) x =
    elim (same_bytes c.name x) as (λ b. cond b v (get cs r x) ≡ map_or (and_then (cond b (some 0) (and_then (col_place cs x) (λ i. some (suc i)))) (nth (v ∷ r))) null (λ v. v)) [ true ↦ refl | false ↦ get_by_place cs r x ∙ one_on (col_place cs x) v r ]

-- which place a used column has among the used ones
found_on :
    (us : List Bytes) (c : Col) (cs : List Col) (x : Bytes) (j : ℕ) → same_bytes c.name x ≡ false
    → col_place (project_cols us cs) x ≡ some (length (project_cols us (take j cs)))
    → col_place (project_cols us (c ∷ cs)) x ≡ some (length (project_cols us (take (suc j) (c ∷ cs))))
found_on us c cs x j f h =
    elim (among c.name us) as (λ b. col_place (cond b (c ∷ project_cols us cs) (project_cols us cs)) x ≡ some (length (cond b (c ∷ project_cols us (take j cs)) (project_cols us (take j cs))))) [ true ↦ ap (λ b. cond b (some 0) (and_then (col_place (project_cols us cs) x) (λ i. some (suc i)))) f ∙ ap (λ o. and_then o (λ i. some (suc i))) h | false ↦ h ]

found_here :
    (us : List Bytes) (c : Col) (cs : List Col) (x : Bytes) → same_bytes c.name x ≡ true → In x us
    → col_place (project_cols us (c ∷ cs)) x ≡ some 0
found_here us c cs x f h =
    subst (λ b. col_place (cond b (c ∷ project_cols us cs) (project_cols us cs)) x ≡ some 0) (sym (ap (λ z. among z us) (same_is c.name x f) ∙ h))
    (ap (λ b. cond b (some 0) (and_then (col_place (project_cols us cs) x) (λ i. some (suc i)))) f)

pub place_projected : PlaceProjected
place_projected us x h [] i e = absurd (let z : ◌≡◌ {A = ℕ} 0 1 = cc in omega arith)
place_projected us x h (c ∷ cs) i e =
    (elim (same_bytes c.name x) as (λ b. same_bytes c.name x ≡ b → cond b (some 0) (and_then (col_place cs x) (λ i. some (suc i))) ≡ some i → col_place (project_cols us (c ∷ cs)) x ≡ some (length (project_cols us (take i (c ∷ cs))))) [
      | true ↦ λ f g. let k : 0 ≡ i = cc in subst (λ j. col_place (project_cols us (c ∷ cs)) x ≡ some (length (project_cols us (take j (c ∷ cs))))) k (found_here us c cs x f h)
      | false ↦ λ f g. let p = some_of (col_place cs x) (λ j. some (suc j)) i g in
          let g2 = p.2 in let k : suc p.0 ≡ i = cc in
          subst (λ j. col_place (project_cols us (c ∷ cs)) x ≡ some (length (project_cols us (take j (c ∷ cs))))) k (found_on us c cs x p.0 f (place_projected us x h cs p.0 p.1))
    ]) refl e

-- a projected table is wide, too, and where nothing is left out its rows stay
different_intersect : (us xs : List Bytes) → all_different xs ≡ true → all_different (intersect xs us) ≡ true
different_intersect us [] o = refl
different_intersect us (x ∷ xs) o =
    let p = and_parts (not (among x xs)) (all_different xs) o in
    elim (among x us) as (λ b. all_different (cond b (x ∷ intersect xs us) (intersect xs us)) ≡ true) [
      | true ↦ and_from (not (among x (intersect xs us))) (all_different (intersect xs us)) (not_from_false (among x (intersect xs us)) (bool_ext (among x (intersect xs us)) false (λ h. sym (not-true (among x xs) p.0) ∙ filter_in (λ y. among y us) xs x h) (λ h. absurd (false≢true h)))) (different_intersect us xs p.1)
      | false ↦ different_intersect us xs p.1
    ]

pub project_well_formed : (us : List Bytes) (t : Table) → WellFormed t → WellFormed (project us t)
project_well_formed us t w =
    record { differ = subst (λ l. all_different l ≡ true) (sym (project_names us t.cols)) (different_intersect us (col_names t.cols) w.differ); wide = every_each (λ r. length r ≡ length (project_cols us t.cols)) (project_row t.cols (col_names (project_cols us t.cols))) (λ r. length_each (get t.cols r) (col_names (project_cols us t.cols)) ∙ names_length (project_cols us t.cols)) t.rows }

look_self : (xs : List Bytes) (r : Row) → all_different xs ≡ true → length r ≡ length xs → each (λ x. look xs r x) xs ≡ r
look_self [] [] o e = refl
look_self [] (v ∷ vs) o e = absurd (omega arith)
look_self (x ∷ xs) [] o e = absurd (omega arith)
look_self (x ∷ xs) (v ∷ vs) o e =
    let p = and_parts (not (among x xs)) (all_different xs) o in
    ap₂ (λ a l. a ∷ l) (ap (λ b. cond b v (look xs vs x)) (same_self x))
    (each_same (λ y. look (x ∷ xs) (v ∷ vs) y) (λ y. look xs vs y) xs (λ y k. ap (λ b. cond b v (look xs vs y)) (apart x xs p.0 y k)) ∙ look_self xs vs p.1 (omega arith))

pub project_row_self : (cs : List Col) (r : Row) → all_different (col_names cs) ≡ true → length r ≡ length cs → project_row cs (col_names cs) r ≡ r
project_row_self cs r o e =
    each_same (get cs r) (λ x. look (col_names cs) r x) (col_names cs) (λ x k. get_look cs r x)
    ∙ look_self (col_names cs) r o (e ∙ sym (names_length cs))

pub all_projected : AllProjected
all_projected cs [] o w = refl
all_projected cs (r ∷ rs) o w = ap₂ (λ a l. a ∷ l) (project_row_self cs r o w.0) (all_projected cs rs o w.1)

-- group: of each key its used cells, then the used sums and so on
intersect_append : (us xs ys : List Bytes) → intersect (xs ++ ys) us ≡ intersect xs us ++ intersect ys us
intersect_append us [] ys = refl
intersect_append us (x ∷ xs) ys =
    elim (among x us) as (λ b. cond b (x ∷ intersect (xs ++ ys) us) (intersect (xs ++ ys) us) ≡ cond b (x ∷ intersect xs us) (intersect xs us) ++ intersect ys us) [ true ↦ ap (λ l. x ∷ l) (intersect_append us xs ys) | false ↦ intersect_append us xs ys ]

named_intersect : (us : List Bytes) (aggs : List NamedAgg) → intersect (agg_col_names aggs) us ≡ agg_col_names (aggs_used us aggs)
named_intersect us [] = refl
named_intersect us (a ∷ aggs) =
    elim (among a.name us) as (λ b. cond b (a.name ∷ intersect (agg_col_names aggs) us) (intersect (agg_col_names aggs) us) ≡ agg_col_names (cond b (a ∷ aggs_used us aggs) (aggs_used us aggs))) [ true ↦ ap (λ l. a.name ∷ l) (named_intersect us aggs) | false ↦ named_intersect us aggs ]

named_project :
    (us : List Bytes) (f : NamedAgg → Value) (aggs : List NamedAgg) → all_different (agg_col_names aggs) ≡ true
    → each (λ x. look (agg_col_names aggs) (each f aggs) x) (agg_col_names (aggs_used us aggs)) ≡ each f (aggs_used us aggs)
named_project us f [] o = refl
named_project us f (a ∷ aggs) o =
    let p = and_parts (not (among a.name (agg_col_names aggs))) (all_different (agg_col_names aggs)) o in
    let rest : each (λ x. look (agg_col_names (a ∷ aggs)) (each f (a ∷ aggs)) x) (agg_col_names (aggs_used us aggs)) ≡ each f (aggs_used us aggs) =
    each_same (λ x. look (agg_col_names (a ∷ aggs)) (each f (a ∷ aggs)) x) (λ x. look (agg_col_names aggs) (each f aggs) x) (agg_col_names (aggs_used us aggs)) (λ x k. ap (λ b. cond b (f a) (look (agg_col_names aggs) (each f aggs) x)) (apart a.name (agg_col_names aggs) p.0 x (filter_in (λ y. among y us) (agg_col_names aggs) x (subst (λ l. In x l) (sym (named_intersect us aggs)) k)))) ∙ named_project us f aggs p.1 in
    elim (among a.name us) as (λ b. each (λ x. look (agg_col_names (a ∷ aggs)) (each f (a ∷ aggs)) x) (agg_col_names (cond b (a ∷ aggs_used us aggs) (aggs_used us aggs))) ≡ each f (cond b (a ∷ aggs_used us aggs) (aggs_used us aggs)))
    [ true ↦ ap₂ (λ v l. v ∷ l) (ap (λ b. cond b (f a) (look (agg_col_names aggs) (each f aggs) a.name)) (same_self a.name)) rest | false ↦ rest ]

different_behind : (xs ys : List Bytes) → all_different (xs ++ ys) ≡ true → all_different ys ≡ true
different_behind [] ys o = o
different_behind (x ∷ xs) ys o = different_behind xs ys (and_parts (not (among x (xs ++ ys))) (all_different (xs ++ ys)) o).1

module _ (us : List Bytes) (es fs : List Col) (xs : List Bytes) (aggs : List NamedAgg) (ne : col_names es ≡ xs) (nf : col_names fs ≡ agg_col_names aggs) (o : all_different (xs ++ agg_col_names aggs) ≡ true) where
  group_names : col_names (project_cols us (es ++ fs)) ≡ intersect xs us ++ agg_col_names (aggs_used us aggs)
  group_names =
      project_names us (es ++ fs)
      ∙ (ap (λ l. intersect l us) (names_append es fs ∙ ap₂ (λ a b. a ++ b) ne nf) ∙ (intersect_append us xs (agg_col_names aggs) ∙ ap (λ l. intersect xs us ++ l) (named_intersect us aggs)))

  group_row :
      (k : Row) (f : NamedAgg → Value) → length k ≡ length xs
      → project_row (es ++ fs) (col_names (project_cols us (es ++ fs))) (k ++ each f aggs)
      ≡ project_row es (intersect xs us) k ++ each f (aggs_used us aggs)
  group_row k f w = ap (λ l. project_row (es ++ fs) l (k ++ each f aggs)) group_names ∙ (each_append (get (es ++ fs) (k ++ each f aggs)) (intersect xs us) (agg_col_names (aggs_used us aggs)) ∙ ap₂ (λ a b. a ++ b)
      (each_same (get (es ++ fs) (k ++ each f aggs)) (get es k) (intersect xs us) (λ x i. get_append es fs k (each f aggs) x wk ∙ ap (λ b. cond b (get es k x) (get fs (each f aggs) x)) (ap (λ l. among x l) ne ∙ filter_in (λ y. among y us) xs x i)))
      (each_same (get (es ++ fs) (k ++ each f aggs)) (λ x. look (agg_col_names aggs) (each f aggs) x) (agg_col_names (aggs_used us aggs)) (λ x i. get_append es fs k (each f aggs) x wk ∙ (ap (λ b. cond b (get es k x) (get fs (each f aggs) x)) (ap (λ l. among x l) ne ∙ different_apart xs (agg_col_names aggs) x o (filter_in (λ y. among y us) (agg_col_names aggs) x (subst (λ l. In x l) (sym (named_intersect us aggs)) i))) ∙ (get_look fs (each f aggs) x ∙ ap (λ l. look l (each f aggs) x) nf))) ∙ named_project us f aggs (different_behind xs (agg_col_names aggs) o)))
    where
      wk : length k ≡ length es
      wk = w ∙ (ap length (sym ne) ∙ names_length es)

  group_by :
      (cs : List Col) (rs : List Row) (ks : List Row) → Every (λ k. length k ≡ length xs) ks
      → each (project_row (es ++ fs) (col_names (project_cols us (es ++ fs)))) (group_rows cs xs aggs rs ks)
      ≡ each (λ k. project_row es (intersect xs us) k ++ each (λ a. aggregate cs (filter (λ r. same_row (project_row cs xs r) k) rs) a.agg) (aggs_used us aggs)) ks
  group_by cs rs [] h = refl
  group_by cs rs (k ∷ ks) h =
      ap₂ (λ a l. a ∷ l) (group_row k (λ a. aggregate cs (filter (λ r. same_row (project_row cs xs r) k) rs) a.agg) h.0)
      (group_by cs rs ks h.1)

  group_projected :
      (t b : Table)
      → projected_rows (es ++ fs) (col_names (project_cols us (es ++ fs))) t b (s_group xs aggs)
      ≡ each (λ k. project_row es (intersect xs us) k ++ each (λ a. aggregate t.cols (filter (λ r. same_row (project_row t.cols xs r) k) t.rows) a.agg) (aggs_used us aggs)) (group_keys t.cols xs t.rows)
  group_projected t b = group_by t.cols t.rows (group_keys t.cols xs t.rows) (keys_wide t.cols xs t.rows)

pub group_by_cells : GroupByCells
group_by_cells us es fs xs aggs t b ne nf o = group_projected us es fs xs aggs ne nf o t b

-- cells of two rows side by side
pub part_append :
    (ds fs : List Col) (w1 w2 : List Bytes) (r s : Row) → length r ≡ length ds → ((x : Bytes) → In x w1 → In x (col_names ds)) → ((x : Bytes) → In x w2 → among x (col_names ds) ≡ false)
    → project_row (ds ++ fs) (w1 ++ w2) (r ++ s) ≡ project_row ds w1 r ++ project_row fs w2 s
part_append ds fs w1 w2 r s w f g =
    each_append (get (ds ++ fs) (r ++ s)) w1 w2
    ∙ ap₂ (λ a b. a ++ b)
    (each_same (get (ds ++ fs) (r ++ s)) (get ds r) w1 (λ x k. get_append ds fs r s x w ∙ ap (λ b. cond b (get ds r x) (get fs s x)) (f x k)))
    (each_same (get (ds ++ fs) (r ++ s)) (get fs s) w2 (λ x k. get_append ds fs r s x w ∙ ap (λ b. cond b (get ds r x) (get fs s x)) (g x k)))

-- make: the used cells, then the new one if it's used
one_cell : (b : Bool) (c : Col) (v : Value) → project_row (c ∷ []) (cond b (c.name ∷ []) []) (v ∷ []) ≡ cond b (v ∷ []) []
one_cell true c v = ap (λ x. x ∷ []) (get_look (c ∷ []) (v ∷ []) c.name ∙ ap (λ b. cond b v null) (same_self c.name))
one_cell false c v = refl

one_name : (b : Bool) (x y : Bytes) → In y (cond b (x ∷ []) []) → y ≡ x
one_name true x y h = ⊎_elim (same_is y x) (λ k. absurd (false≢true k)) (or_cases (same_bytes y x) false h)
one_name false x y h = absurd (false≢true h)

each_every : {C : Type 0} (P : Row → Type 0) (f g : Row → C) → ((r : Row) → P r → f r ≡ g r) → (rs : List Row) → Every P rs → each f rs ≡ each g rs
each_every P f g h [] w = refl
each_every P f g h (r ∷ rs) w = ap₂ (λ a l. a ∷ l) (h r w.0) (each_every P f g h rs w.1)

pub make_by_cells : MakeByCells
make_by_cells us cs c e t b w n f =
    each_each (project_row (t.cols ++ (record { name = c.name; ty = t_num } ∷ [])) (col_names (project_cols us (cs ++ (c ∷ []))))) (λ r. r ++ (eval t.cols r e ∷ [])) t.rows
    ∙ each_every (λ r. length r ≡ length t.cols) (λ r. project_row (t.cols ++ (record { name = c.name; ty = t_num } ∷ [])) (col_names (project_cols us (cs ++ (c ∷ [])))) (r ++ (eval t.cols r e ∷ []))) (λ r. project_row t.cols (intersect (col_names cs) us) r ++ cond (among c.name us) (eval t.cols r e ∷ []) [])
    (λ r l.
    ap (λ ws. project_row (t.cols ++ (record { name = c.name; ty = t_num } ∷ [])) ws (r ++ (eval t.cols r e ∷ []))) (project_names us (cs ++ (c ∷ [])) ∙ (ap (λ xs. intersect xs us) (names_append cs (c ∷ [])) ∙ intersect_append us (col_names cs) (c.name ∷ [])))
    ∙ (part_append t.cols (record { name = c.name; ty = t_num } ∷ []) (intersect (col_names cs) us) (cond (among c.name us) (c.name ∷ []) []) r (eval t.cols r e ∷ []) l f (λ x k. ap (λ z. among z (col_names t.cols)) (one_name (among c.name us) c.name x k) ∙ n)
    ∙ ap (λ x. project_row t.cols (intersect (col_names cs) us) r ++ x) (one_cell (among c.name us) (record { name = c.name; ty = t_num }) (eval t.cols r e))))
    t.rows w.wide

-- join: the used cells of the row, then those of the other
each_flat_map : {A B C : Type 0} (f : B → C) (g : A → List B) (xs : List A) → each f (flat_map g xs) ≡ flat_map (λ x. each f (g x)) xs
each_flat_map f g [] = refl
each_flat_map f g (x ∷ xs) = each_append f (g x) (flat_map g xs) ∙ ap (λ l. each f (g x) ++ l) (each_flat_map f g xs)

flat_map_every :
    {C : Type 0} (P : Row → Type 0) (f g : Row → List C) → ((r : Row) → P r → f r ≡ g r) → (rs : List Row) → Every P rs
    → flat_map f rs ≡ flat_map g rs
flat_map_every P f g h [] w = refl
flat_map_every P f g h (r ∷ rs) w = ap₂ (λ a l. a ++ l) (h r w.0) (flat_map_every P f g h rs w.1)

each_ext : {A C : Type 0} (f g : A → C) → ((a : A) → f a ≡ g a) → (xs : List A) → each f xs ≡ each g xs
each_ext f g h [] = refl
each_ext f g h (x ∷ xs) = ap₂ (λ a l. a ∷ l) (h x) (each_ext f g h xs)

pub join_by_cells : JoinByCells
join_by_cells us cs es m x y stay t b w f g =
    each_flat_map (project_row (t.cols ++ b.cols) (col_names (project_cols us (cs ++ es)))) (λ r. each (λ s. r ++ s) (or_null_row stay (length b.cols) (matches b y (get t.cols r x)))) t.rows
    ∙ flat_map_every (λ r. length r ≡ length t.cols) _ _
    (λ r l.
    each_each (project_row (t.cols ++ b.cols) (col_names (project_cols us (cs ++ es)))) (λ s. r ++ s) (or_null_row stay (length b.cols) (matches b y (get t.cols r x)))
    ∙ each_ext (λ s. project_row (t.cols ++ b.cols) (col_names (project_cols us (cs ++ es))) (r ++ s)) (λ s. project_row t.cols (intersect (col_names cs) us) r ++ project_row b.cols (intersect (col_names es) us) s)
    (λ s. ap (λ ws. project_row (t.cols ++ b.cols) ws (r ++ s)) (project_names us (cs ++ es) ∙ (ap (λ xs. intersect xs us) (names_append cs es) ∙ intersect_append us (col_names cs) (col_names es))) ∙ part_append t.cols b.cols (intersect (col_names cs) us) (intersect (col_names es) us) r s l f g)
    (or_null_row stay (length b.cols) (matches b y (get t.cols r x))))
    t.rows w.wide
