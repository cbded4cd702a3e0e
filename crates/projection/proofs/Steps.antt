-- Steps on projected tables come to the projected tables behind the steps.
use Rattle.std.proofs.Common.{◌≡◌, Bool, true, false, cond, List, [], ◌∷◌, ◌++◌, length, sym, refl, ap, ◌∙◌, subst}
use mathlib.Core.Option.{Option, some, none}
use Rattle.std.proofs.lemmas.Bool.{false≢true}
use Rattle.meaning.specs.Base.{map_or, and_then, when, Bytes, among, all_different, each, Every}
use Rattle.meaning.specs.Values.{null, t_num, same_type, Col, Row, get, type_of, col_type, names_in}
use Rattle.meaning.specs.Steps.{Step, s_keep, s_make, s_pick, s_join, s_group, s_order, s_take, s_skip, s_unite, s_distinct, Table, table, Catalog, col_names, project_row, join, key_names, same_cols, cols_named, agg_cols, valid_cols, checked_table, cols_exist, apply_step}
use Rattle.meaning.specs.Plan.{add_names, intersect, used_before, used_of_named, used_aggs, of_named}
use Rattle.meaning.specs.Theorems.{WellFormed}
use Rattle.projection.specs.Projected.{project_cols, project, projected_step}
use Rattle.meaning.proofs.Names.{In, bool_ext, in_first, in_later, in_filter, filter_in, filter_true, add_names_right, names_length}
use Rattle.meaning.proofs.Pairs.{Pairs, p_none, p_more, pairs_take, pairs_drop, pairs_same}
use Rattle.meaning.proofs.RowsAgree.{Agree, BothOrNone, each_same, length_each, get_none, get_project_row, keep_agree, make_agree, join_agree, order_agree, unite_agree, same_names, distinct_agree, group_agree}
use Rattle.meaning.proofs.TablesAlike.{HoldsIfAny, holds_when, holds_then, holds_of, names_at, names_aggs, snoc_new}

pub project_names : (us : List Bytes) (cs : List Col) → col_names (project_cols us cs) ≡ intersect (col_names cs) us
project_names us [] = refl
project_names us (c ∷ cs) =
    elim (among c.name us) as (λ b. col_names (cond b (c ∷ project_cols us cs) (project_cols us cs)) ≡ cond b (c.name ∷ intersect (col_names cs) us) (intersect (col_names cs) us)) [ true ↦ ap (λ l. c.name ∷ l) (project_names us cs) | false ↦ project_names us cs ]

-- a name is in the projected columns if it's in the columns and used
pub project_in : (us : List Bytes) (cs : List Col) (x : Bytes) → In x (col_names cs) → In x us → In x (col_names (project_cols us cs))
project_in us cs x h k = subst (λ l. In x l) (sym (project_names us cs)) (in_filter (λ y. among y us) (col_names cs) x h k)

pub project_there : (us : List Bytes) (cs : List Col) (x : Bytes) → In x (col_names (project_cols us cs)) → In x (col_names cs)
project_there us cs x h = filter_in (λ y. among y us) (col_names cs) x (subst (λ l. In x l) (project_names us cs) h)

pub project_used : (us : List Bytes) (cs : List Col) (x : Bytes) → In x (col_names (project_cols us cs)) → In x us
project_used us cs x h = filter_true (λ y. among y us) (col_names cs) x (subst (λ l. In x l) (project_names us cs) h)

not_projected : (us : List Bytes) (cs : List Col) (x : Bytes) → among x (col_names cs) ≡ false → among x (col_names (project_cols us cs)) ≡ false
not_projected us cs x e =
    bool_ext (among x (col_names (project_cols us cs))) false (λ h. sym e ∙ project_there us cs x h) (λ h. absurd (false≢true h))

kin_project : (us vs : List Bytes) (cs : List Col) → ((x : Bytes) → In x us → In x (col_names cs) → In x vs) → BothOrNone us cs (project_cols vs cs)
kin_project us vs cs f x k =
    bool_ext (among x (col_names cs)) (among x (col_names (project_cols vs cs))) (λ h. project_in vs cs x h (f x k h)) (project_there vs cs x)

pub intersect_all : (xs us : List Bytes) → ((x : Bytes) → In x xs → In x us) → intersect xs us ≡ xs
intersect_all [] us f = refl
intersect_all (x ∷ xs) us f =
    subst (λ b. cond b (x ∷ intersect xs us) (intersect xs us) ≡ x ∷ xs) (sym (f x (in_first x xs)))
    (ap (λ l. x ∷ l) (intersect_all xs us (λ y k. f y (in_later y x xs k))))

all_cols : (cs : List Col) (us : List Bytes) → ((x : Bytes) → In x (col_names cs) → In x us) → project_cols us cs ≡ cs
all_cols [] us f = refl
all_cols (c ∷ cs) us f =
    subst (λ b. cond b (c ∷ project_cols us cs) (project_cols us cs) ≡ c ∷ cs) (sym (f c.name (in_first c.name (col_names cs))))
    (ap (λ l. c ∷ l) (all_cols cs us (λ y k. f y (in_later y c.name (col_names cs) k))))

pub project_all : (cs : List Col) → project_cols (col_names cs) cs ≡ cs
project_all cs = all_cols cs (col_names cs) (λ x k. k)

-- a table and itself cut down show the same under what's used
pub project_agree :
    (us : List Bytes) (cs : List Col) (rs : List Row) → Every (λ r. length r ≡ length cs) rs
    → Pairs (Agree us cs (project_cols us cs)) rs (each (project_row cs (col_names (project_cols us cs))) rs)
project_agree us cs [] h = p_none
project_agree us cs (r ∷ rs) h =
    p_more (record { wide = h.0; wide' = length_each (get cs r) (col_names (project_cols us cs)) ∙ names_length (project_cols us cs); shows = λ x k. sym (get_project_row (project_cols us cs) (col_names (project_cols us cs)) (get cs r) x refl ∙ at x k (among x (col_names cs)) refl) })
    (project_agree us cs rs h.1)
  where
    at :
        (x : Bytes) → In x us → (b : Bool) → among x (col_names cs) ≡ b
        → cond (among x (col_names (project_cols us cs))) (get cs r x) null ≡ get cs r x
    at x k true e = ap (λ b. cond b (get cs r x) null) (project_in us cs x e k)
    at x k false e = ap (λ b. cond b (get cs r x) null) (not_projected us cs x e) ∙ sym (get_none cs r x e)

-- rows that show the same are the same, cut down
pub project_same :
    (us : List Bytes) (cs ds : List Col) {rs ss : List Row} → Pairs (Agree us cs ds) rs ss → (ws : List Bytes) → ((x : Bytes) → In x ws → In x us)
    → each (project_row cs ws) rs ≡ each (project_row ds ws) ss
project_same us cs ds p ws f =
    pairs_same (Agree us cs ds) (project_row cs ws) (project_row ds ws) (λ r s h. each_same (get cs r) (get ds s) ws (λ x k. h.shows x (f x k))) p

pub each_each : {A B C : Type 0} (f : B → C) (g : A → B) (xs : List A) → each f (each g xs) ≡ each (λ x. f (g x)) xs
each_each f g [] = refl
each_each f g (x ∷ xs) = ap (λ l. f (g x) ∷ l) (each_each f g xs)

-- what is used of the table that a step names, cut down
abbrev pub cut_named : Catalog → Step → List Bytes → Table
cut_named ts s us = map_or (of_named ts s) (table [] []) (λ b. project (used_of_named b.cols s us) b)

-- one step
module _ (ts : Catalog) (us : List Bytes) (cs : List Col) (rs : List Row) (n : all_different (col_names cs) ≡ true) (w : Every (λ r. length r ≡ length cs) rs) (tw : (m : Bytes) (b : Table) → ts m ≡ some b → WellFormed b) where
  abbrev Same : Step → Table → Type 0
  Same s u = project us u ≡ projected_step u.cols us (project (used_before cs s us) (table cs rs)) (cut_named ts s us) s

  seen_by :
      (s : Step)
      → Pairs (Agree (used_before cs s us) cs (project_cols (used_before cs s us) cs)) rs (project (used_before cs s us) (table cs rs)).rows
  seen_by s = project_agree (used_before cs s us) cs rs w

  on_used :
      (es ds : List Col) {rows rows2 : List Row} → Pairs (Agree us es ds) rows rows2
      → project us (table es rows) ≡ table (project_cols us es) (each (project_row ds (col_names (project_cols us es))) rows2)
  on_used es ds p = ap (λ l. table (project_cols us es) l) (project_same us es ds p (col_names (project_cols us es)) (project_used us es))

  join_leads :
      (m x y : Bytes) (stay : Bool) (o : Option Table) → ((b : Table) → o ≡ some b → WellFormed b)
      → HoldsIfAny (λ u. project us u ≡ projected_step u.cols us (project (used_before cs (s_join m x y stay) us) (table cs rs)) (map_or o (table [] []) (λ b. project (used_of_named b.cols (s_join m x y stay) us) b)) (s_join m x y stay))
      (and_then o (λ b. and_then (col_type cs x) (λ u. and_then (col_type b.cols y) (λ w. when (same_type u w) (checked_table (cs ++ b.cols) (join (table cs rs) b x y stay))))))
  join_leads m x y stay none k = tt
  join_leads m x y stay (some b) k =
      holds_then _ (col_type cs x) _ (λ u eu. holds_then _ (col_type b.cols y) _ (λ v ev. holds_when _ (same_type u v) _ (λ e. holds_when _ (valid_cols (cs ++ b.cols)) _ (λ ok.
      on_used (cs ++ b.cols) (project_cols (add_names (x ∷ []) (intersect us (col_names cs))) cs ++ project_cols (add_names (y ∷ []) (intersect us (col_names b.cols))) b.cols)
      (join_agree us cs (project_cols (add_names (x ∷ []) (intersect us (col_names cs))) cs) b.cols (project_cols (add_names (y ∷ []) (intersect us (col_names b.cols))) b.cols) x y
      (kin_project us (add_names (x ∷ []) (intersect us (col_names cs))) cs (λ z i j. add_names_right (x ∷ []) (intersect us (col_names cs)) z (in_filter (λ c. among c (col_names cs)) us z i j)))
      (kin_project us (add_names (y ∷ []) (intersect us (col_names b.cols))) b.cols (λ z i j. add_names_right (y ∷ []) (intersect us (col_names b.cols)) z (in_filter (λ c. among c (col_names b.cols)) us z i j)))
      stay (seen_by (s_join m x y stay)) (project_agree (add_names (y ∷ []) (intersect us (col_names b.cols))) b.cols b.rows (k b refl).wide))))))

  unite_leads :
      (m : Bytes) (o : Option Table) → ((b : Table) → o ≡ some b → WellFormed b)
      → HoldsIfAny (λ u. project us u ≡ projected_step u.cols us (project us (table cs rs)) (map_or o (table [] []) (λ b. project us b)) (s_unite m))
      (and_then o (λ b. when (same_cols cs b.cols) (some (table cs (rs ++ b.rows)))))
  unite_leads m none k = tt
  unite_leads m (some b) k =
      holds_when _ (same_cols cs b.cols) _
      (λ e. on_used cs (project_cols us cs) (unite_agree us cs (project_cols us cs) b.cols (project_cols us b.cols) (same_names cs b.cols e) (project_names us cs ∙ (ap (λ l. intersect l us) (same_names cs b.cols e) ∙ sym (project_names us b.cols))) (seen_by (s_unite m)) (project_agree us b.cols b.rows (k b refl).wide)))

  pick_leads :
      (xs : List Bytes) (es : List Col) → col_names es ≡ xs
      → project us (table es (each (project_row cs xs) rs)) ≡ projected_step es us (project us (table cs rs)) (table [] []) (s_pick xs)
  pick_leads xs es e =
      ap (λ l. table (project_cols us es) l)
      (each_each (project_row es (col_names (project_cols us es))) (project_row cs xs) rs ∙ pairs_same (Agree us cs (project_cols us cs)) (λ r. project_row es (col_names (project_cols us es)) (project_row cs xs r)) (project_row (project_cols us cs) (col_names (project_cols us es))) (λ r s h. each_same (get es (project_row cs xs r)) (get (project_cols us cs) s) (col_names (project_cols us es)) (λ x k. get_project_row es xs (get cs r) x e ∙ (ap (λ b. cond b (get cs r x) null) (subst (λ l. In x l) e (project_there us es x k)) ∙ h.shows x (project_used us es x k)))) (seen_by (s_pick xs)))

  step_leads : (s : Step) → HoldsIfAny (Same s) (apply_step ts (table cs rs) s)
  step_leads (s_keep e) =
      holds_then (Same (s_keep e)) (type_of cs e) _
      (λ u eu. holds_when (Same (s_keep e)) (same_type u t_num) _ (λ f. on_used cs (project_cols (add_names (names_in e) us) cs) (keep_agree us cs (project_cols (add_names (names_in e) us) cs) e (seen_by (s_keep e)))))
  step_leads (s_make x e) =
      holds_then (Same (s_make x e)) (type_of cs e) _
      (λ u eu. holds_when (Same (s_make x e)) (valid_cols (cs ++ (record { name = x; ty = u } ∷ []))) _ (λ ok. on_used (cs ++ (record { name = x; ty = u } ∷ [])) (project_cols (used_before cs (s_make x e) us) cs ++ (record { name = x; ty = t_num } ∷ [])) (make_agree us cs (project_cols (used_before cs (s_make x e) us) cs) e (record { name = x; ty = u }) (record { name = x; ty = t_num }) refl (snoc_new cs (record { name = x; ty = u }) ok) (not_projected (used_before cs (s_make x e) us) cs x (snoc_new cs (record { name = x; ty = u }) ok)) (seen_by (s_make x e)))))
  step_leads (s_pick xs) =
      holds_then (Same (s_pick xs)) (cols_named cs xs) _
      (λ es e. holds_when (Same (s_pick xs)) (valid_cols es) _ (λ ok. pick_leads xs es (names_at cs xs es e)))
  step_leads (s_join m x y stay) = join_leads m x y stay (ts m) (tw m)
  step_leads (s_group xs aggs) =
      holds_then (Same (s_group xs aggs)) (cols_named cs xs) _
      (λ es e. holds_then (Same (s_group xs aggs)) (agg_cols cs aggs) _ (λ fs f. holds_when (Same (s_group xs aggs)) (valid_cols (es ++ fs)) _ (λ ok. on_used (es ++ fs) (es ++ fs) (group_agree us cs (project_cols (add_names xs (used_aggs us aggs)) cs) es fs xs aggs (names_at cs xs es e) (names_aggs cs aggs fs f) (seen_by (s_group xs aggs))))))
  step_leads (s_order ks) =
      holds_when (Same (s_order ks)) (cols_exist cs (key_names ks)) _
      (λ f. on_used cs (project_cols (add_names (key_names ks) us) cs) (order_agree us cs (project_cols (add_names (key_names ks) us) cs) ks (seen_by (s_order ks))))
  step_leads (s_take k) = on_used cs (project_cols us cs) (pairs_take (Agree us cs (project_cols us cs)) k (seen_by (s_take k)))
  step_leads (s_skip k) = on_used cs (project_cols us cs) (pairs_drop (Agree us cs (project_cols us cs)) k (seen_by (s_skip k)))
  step_leads (s_unite m) = unite_leads m (ts m) (tw m)
  step_leads s_distinct =
      on_used cs (project_cols (col_names cs) cs)
      (distinct_agree us cs (project_cols (col_names cs) cs) (ap col_names (sym (project_all cs))) n (seen_by s_distinct))

-- the table behind a step, cut down, from the tables before it, cut down
pub project_step :
    (ts : Catalog) (us : List Bytes) (t : Table) (s : Step) (u : Table) → WellFormed t → ((m : Bytes) (b : Table) → ts m ≡ some b → WellFormed b)
    → apply_step ts t s ≡ some u → project us u ≡ projected_step u.cols us (project (used_before t.cols s us) t) (cut_named ts s us) s
project_step ts us t s u w tw e =
    holds_of (Same ts us t.cols t.rows w.differ w.wide tw s) (apply_step ts t s) u
    (step_leads ts us t.cols t.rows w.differ w.wide tw s) e
