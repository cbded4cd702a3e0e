-- What is used is there, and named once: so pages_read counts just the columns that are read.
use Rattle.std.proofs.Common.{◌≡◌, ℕ, ◌≤◌, Bool, true, false, cond, not, ◌&&◌, List, [], ◌∷◌, ◌++◌, length, sym, refl, ap, ◌∙◌, subst, ⊎_elim, arith as by_sums}
use mathlib.Core.Option.{Option, some, none}
use Rattle.std.proofs.lemmas.Bool.{and_parts, and_from, or_cases, or_left, not_from_false, not-true, false≢true}
use Rattle.meaning.specs.Base.{map_or, and_then, when, is_some, Bytes, same_bytes, among, all_different, filter}
use Rattle.meaning.specs.Values.{Ty, t_num, same_type, op_arith, op_compare, op_logic, Expr, e_num, e_word, e_null, e_col, e_op, e_not, e_none, e_if, Col, type_of, expect_type, col_type, names_in}
use Rattle.meaning.specs.Steps.{Decl, Agg, a_sum, a_count, a_min, a_max, a_first, NamedAgg, Step, s_keep, s_make, s_pick, s_join, s_group, s_order, s_take, s_skip, s_unite, s_distinct, col_names, key_names, cols_named, agg_type, agg_cols, valid_cols, same_cols, cols_exist}
use Rattle.meaning.specs.Plan.{cols_of_table, cols_after, cols_after_all, add_names, intersect, agg_names, used_aggs, used_before, used}
use Rattle.projection.specs.Projected.{project_cols}
use Rattle.meaning.proofs.Names.{In, bool_ext, same_is, same_sym, in_later, in_append, in_filter, filter_in, filter_true, names_append, names_length}
use Rattle.meaning.proofs.TablesAlike.{some_of, names_at}
use Rattle.meaning.proofs.WellFormed.{when_of}
use Rattle.projection.proofs.Steps.{project_names, intersect_all}
use Rattle.projection.proofs.ByPosition.{intersect_length}
use Rattle.projection.proofs.UsedTests.{add_names_is}

abbrev pub Within : List Bytes → List Bytes → Type 0
Within us xs = (x : Bytes) → In x us → In x xs

want_of : (o : Option Ty) (t : Ty) (p : Option Ty) (u : Ty) → expect_type o t p ≡ some u → (v : Ty) × (o ≡ some v) × (p ≡ some u)
want_of o t p u e = let a = some_of o (λ v. when (same_type v t) p) u e in (a.0, a.1, (when_of (same_type a.0 t) p u a.2).1)

in_both : (xs ys zs : List Bytes) → Within xs zs → Within ys zs → Within (xs ++ ys) zs
in_both xs ys zs f g x h = ⊎_elim (f x) (g x) (or_cases (among x xs) (among x ys) (sym (in_append xs ys x) ∙ h))

pub in_add_names : (xs ys zs : List Bytes) → Within xs zs → Within ys zs → Within (add_names xs ys) zs
in_add_names xs ys zs f g x h = ⊎_elim (f x) (g x) (or_cases (among x xs) (among x ys) (sym (add_names_is x xs ys) ∙ h))

none_in : (zs : List Bytes) → Within [] zs
none_in zs x h = absurd (false≢true h)

pub in_one : (y : Bytes) (zs : List Bytes) → In y zs → Within (y ∷ []) zs
in_one y zs h x k = ⊎_elim (λ e. subst (λ w. In w zs) (sym (same_is x y e)) h) (λ l. absurd (false≢true l)) (or_cases (same_bytes x y) false k)

pub col_there : (cs : List Col) (x : Bytes) (t : Ty) → col_type cs x ≡ some t → In x (col_names cs)
col_there [] x t e = absurd (let z : ◌≡◌ {A = ℕ} 0 1 = cc in omega by_sums)
col_there (c ∷ cs) x t e =
    (elim (same_bytes c.name x) as (λ b. same_bytes c.name x ≡ b → cond b (some c.ty) (col_type cs x) ≡ some t → In x (col_names (c ∷ cs))) [ true ↦ λ f g. or_left (same_bytes x c.name) (among x (col_names cs)) (same_sym x c.name ∙ f) | false ↦ λ f g. in_later x c.name (col_names cs) (col_there cs x t g) ]) refl
    e

pub type_there : (cs : List Col) (e : Expr) (u : Ty) → type_of cs e ≡ some u → Within (names_in e) (col_names cs)
type_there cs (e_num n) u h = none_in (col_names cs)
type_there cs (e_word n) u h = none_in (col_names cs)
type_there cs (e_null t) u h = none_in (col_names cs)
type_there cs (e_col x) u h = in_one x (col_names cs) (col_there cs x u h)
type_there cs (e_op (op_arith o) a b) u h = let p = want_of (type_of cs a) t_num (expect_type (type_of cs b) t_num (some t_num)) u h in let q = want_of (type_of cs b) t_num (some t_num) u p.2 in in_both (names_in a) (names_in b) (col_names cs) (type_there cs a p.0 p.1) (type_there cs b q.0 q.1)
type_there cs (e_op (op_compare o) a b) u h = let p = some_of (type_of cs a) (λ t. expect_type (type_of cs b) t (some t_num)) u h in let q = want_of (type_of cs b) p.0 (some t_num) u p.2 in in_both (names_in a) (names_in b) (col_names cs) (type_there cs a p.0 p.1) (type_there cs b q.0 q.1)
type_there cs (e_op (op_logic o) a b) u h = let p = want_of (type_of cs a) t_num (expect_type (type_of cs b) t_num (some t_num)) u h in let q = want_of (type_of cs b) t_num (some t_num) u p.2 in in_both (names_in a) (names_in b) (col_names cs) (type_there cs a p.0 p.1) (type_there cs b q.0 q.1)
type_there cs (e_not a) u h = let p = want_of (type_of cs a) t_num (some t_num) u h in type_there cs a p.0 p.1
type_there cs (e_none a) u h = let p = some_of (type_of cs a) (λ t. some t_num) u h in type_there cs a p.0 p.1
type_there cs (e_if a b c) u h =
    let p = want_of (type_of cs a) t_num (and_then (type_of cs b) (λ t. expect_type (type_of cs c) t (some t))) u h in
    let q = some_of (type_of cs b) (λ t. expect_type (type_of cs c) t (some t)) u p.2 in
    let r = want_of (type_of cs c) q.0 (some q.0) u q.2 in
    in_both (names_in a) (names_in b ++ names_in c) (col_names cs) (type_there cs a p.0 p.1) (in_both (names_in b) (names_in c) (col_names cs) (type_there cs b q.0 q.1) (type_there cs c r.0 r.1))

at_there : (cs : List Col) (xs : List Bytes) (es : List Col) → cols_named cs xs ≡ some es → Within xs (col_names cs)
at_there cs [] es e = none_in (col_names cs)
at_there cs (x ∷ xs) es e =
    let a = some_of (col_type cs x) (λ t. and_then (cols_named cs xs) (λ ds. some (record { name = x; ty = t } ∷ ds))) es e in
    let b = some_of (cols_named cs xs) (λ ds. some (record { name = x; ty = a.0 } ∷ ds)) es a.2 in
    in_both (x ∷ []) xs (col_names cs) (in_one x (col_names cs) (col_there cs x a.0 a.1)) (at_there cs xs b.0 b.1)

agg_there : (cs : List Col) (a : Agg) (t : Ty) → agg_type cs a ≡ some t → Within (agg_names a) (col_names cs)
agg_there cs (a_sum x) t e = let p = some_of (col_type cs x) (λ t. when (same_type t t_num) (some t_num)) t e in in_one x (col_names cs) (col_there cs x p.0 p.1)
agg_there cs a_count t e = none_in (col_names cs)
agg_there cs (a_min x) t e = in_one x (col_names cs) (col_there cs x t e)
agg_there cs (a_max x) t e = in_one x (col_names cs) (col_there cs x t e)
agg_there cs (a_first x) t e = in_one x (col_names cs) (col_there cs x t e)

pick_in : (b : Bool) (xs zs : List Bytes) → Within xs zs → Within (cond b xs []) zs
pick_in true xs zs f = f
pick_in false xs zs f = none_in zs

aggs_there :
    (us : List Bytes) (cs : List Col) (aggs : List NamedAgg) (es : List Col) → agg_cols cs aggs ≡ some es → Within (used_aggs us aggs) (col_names cs)
aggs_there us cs [] es e = none_in (col_names cs)
aggs_there us cs (x ∷ aggs) es e =
    let a = some_of (agg_type cs x.agg) (λ t. and_then (agg_cols cs aggs) (λ ds. some (record { name = x.name; ty = t } ∷ ds))) es e in
    let b = some_of (agg_cols cs aggs) (λ ds. some (record { name = x.name; ty = a.0 } ∷ ds)) es a.2 in
    in_add_names (cond (among x.name us) (agg_names x.agg) []) (used_aggs us aggs) (col_names cs) (pick_in (among x.name us) (agg_names x.agg) (col_names cs) (agg_there cs x.agg a.0 a.1)) (aggs_there us cs aggs b.0 b.1)

keys_there : (cs : List Col) (xs : List Bytes) → cols_exist cs xs ≡ true → Within xs (col_names cs)
keys_there cs [] e = none_in (col_names cs)
keys_there cs (x ∷ xs) e = let p = and_parts (is_some (col_type cs x)) (cols_exist cs xs) e in in_both (x ∷ []) xs (col_names cs) (in_one x (col_names cs) (one (col_type cs x) refl p.0)) (keys_there cs xs p.1)
  where
    one : (o : Option Ty) → col_type cs x ≡ o → is_some o ≡ true → In x (col_names cs)
    one none f g = absurd (false≢true g)
    one (some t) f g = col_there cs x t f

-- the columns used before a step are there
pub same_es : (cs es : List Col) (us : List Bytes) → some cs ≡ some es → Within us (col_names es) → Within us (col_names cs)
same_es cs es us e f = let k : es ≡ cs = cc in subst (λ c. Within us (col_names c)) k f

made_in :
    (b : Bool) (cs : List Col) (c : Col) (e : Expr) (us : List Bytes) → among c.name us ≡ b → Within (names_in e) (col_names cs)
    → Within us (col_names (cs ++ (c ∷ [])))
    → Within (cond b (add_names (names_in e) (filter (λ u. not (same_bytes u c.name)) us)) us) (col_names cs)
made_in b cs c e us h f g = by b h
  where
    other : (x : Bytes) → In x us → same_bytes x c.name ≡ false → In x (col_names cs)
    other x k n =
        ⊎_elim (λ l. l) (λ l. absurd (⊎_elim (λ m. false≢true (sym n ∙ m)) (λ m. false≢true m) (or_cases (same_bytes x c.name) false l)))
        (or_cases (among x (col_names cs)) (among x (c.name ∷ [])) (sym (in_append (col_names cs) (c.name ∷ []) x) ∙ subst (λ l. In x l) (names_append cs (c ∷ [])) (g x k)))

    apart_of : (x : Bytes) → not (same_bytes x c.name) ≡ true → same_bytes x c.name ≡ false
    apart_of x n = not-true (same_bytes x c.name) n

    unlike : among c.name us ≡ false → (x : Bytes) → In x us → same_bytes x c.name ≡ false
    unlike n x k = bool_ext (same_bytes x c.name) false (λ m. sym n ∙ subst (λ w. In w us) (same_is x c.name m) k) (λ m. absurd (false≢true m))

    by :
        (b : Bool) → among c.name us ≡ b
        → Within (cond b (add_names (names_in e) (filter (λ u. not (same_bytes u c.name)) us)) us) (col_names cs)
    by true n =
        in_add_names (names_in e) (filter (λ u. not (same_bytes u c.name)) us) (col_names cs) f
        (λ x k. other x (filter_in (λ u. not (same_bytes u c.name)) us x k) (apart_of x (filter_true (λ u. not (same_bytes u c.name)) us x k)))
    by false n = λ x k. other x k (unlike n x k)

pub before_there :
    (ds : List Decl) (cs es : List Col) (s : Step) (us : List Bytes) → cols_after ds cs s ≡ some es → Within us (col_names es)
    → Within (used_before cs s us) (col_names cs)
before_there ds cs es (s_keep e) us h f = let p = some_of (type_of cs e) (λ u. when (same_type u t_num) (some cs)) es h in in_add_names (names_in e) us (col_names cs) (type_there cs e p.0 p.1) (same_es cs es us (when_of (same_type p.0 t_num) (some cs) es p.2).1 f)
before_there ds cs es (s_make x e) us h f =
    let p = some_of (type_of cs e) (λ u. when (valid_cols (cs ++ (record { name = x; ty = u } ∷ []))) (some (cs ++ (record { name = x; ty = u } ∷ [])))) es h in
    made_in (among x us) cs (record { name = x; ty = p.0 }) e us refl (type_there cs e p.0 p.1) (same_es (cs ++ (record { name = x; ty = p.0 } ∷ [])) es us (when_of (valid_cols (cs ++ (record { name = x; ty = p.0 } ∷ []))) (some (cs ++ (record { name = x; ty = p.0 } ∷ []))) es p.2).1 f)
before_there ds cs es (s_pick xs) us h f =
    let p = some_of (cols_named cs xs) (λ es. when (valid_cols es) (some es)) es h in
    λ x k. at_there cs xs p.0 p.1 x (subst (λ l. In x l) (names_at cs xs p.0 p.1) (same_es p.0 es us (when_of (valid_cols p.0) (some p.0) es p.2).1 f x k))
before_there ds cs es (s_join n x y stay) us h f =
    let p = some_of (cols_of_table ds n) (λ es. and_then (col_type cs x) (λ u. and_then (col_type es y) (λ w. when (same_type u w && valid_cols (cs ++ es)) (some (cs ++ es))))) es h in
    let q = some_of (col_type cs x) (λ u. and_then (col_type p.0 y) (λ w. when (same_type u w && valid_cols (cs ++ p.0)) (some (cs ++ p.0)))) es p.2 in
    in_add_names (x ∷ []) (intersect us (col_names cs)) (col_names cs) (in_one x (col_names cs) (col_there cs x q.0 q.1)) (λ z k. filter_true (λ w. among w (col_names cs)) us z k)
before_there ds cs es (s_group xs aggs) us h f =
    let p = some_of (cols_named cs xs) (λ es. and_then (agg_cols cs aggs) (λ fs. when (valid_cols (es ++ fs)) (some (es ++ fs)))) es h in
    let q = some_of (agg_cols cs aggs) (λ fs. when (valid_cols (p.0 ++ fs)) (some (p.0 ++ fs))) es p.2 in
    in_add_names xs (used_aggs us aggs) (col_names cs) (at_there cs xs p.0 p.1) (aggs_there us cs aggs q.0 q.1)
before_there ds cs es (s_order ks) us h f = let p = when_of (cols_exist cs (key_names ks)) (some cs) es h in in_add_names (key_names ks) us (col_names cs) (keys_there cs (key_names ks) p.0) (same_es cs es us p.1 f)
before_there ds cs es (s_take n) us h f = same_es cs es us h f
before_there ds cs es (s_skip n) us h f = same_es cs es us h f
before_there ds cs es (s_unite n) us h f = let p = some_of (cols_of_table ds n) (λ es. when (same_cols cs es) (some cs)) es h in same_es cs es us (when_of (same_cols cs p.0) (some cs) es p.2).1 f
before_there ds cs es s_distinct us h f = λ x k. k

pub used_there : (ds : List Decl) (ss : List Step) (cs fs : List Col) → cols_after_all ds cs ss ≡ some fs → Within (used ds cs ss) (col_names cs)
used_there ds [] cs fs e = λ x k. k
used_there ds (s ∷ ss) cs fs e =
    let p = some_of (cols_after ds cs s) (λ es. cols_after_all ds es ss) fs e in
    subst (λ o. Within (map_or o [] (λ es. used_before cs s (used ds es ss))) (col_names cs)) (sym p.1) (before_there ds cs p.0 s (used ds p.0 ss) p.1 (used_there ds ss p.0 fs p.2))

-- and named once
pub different_add_names : (vs ws : List Bytes) → all_different ws ≡ true → all_different (add_names vs ws) ≡ true
different_add_names [] ws o = o
different_add_names (v ∷ vs) ws o =
    different_add_names vs (cond (among v ws) ws (v ∷ ws))
    ((elim (among v ws) as (λ b. among v ws ≡ b → all_different (cond b ws (v ∷ ws)) ≡ true) [ true ↦ λ e. o | false ↦ λ e. and_from (not (among v ws)) (all_different ws) (not_from_false (among v ws) e) o ]) refl)

pub different_filter : (p : Bytes → Bool) (xs : List Bytes) → all_different xs ≡ true → all_different (filter p xs) ≡ true
different_filter p [] o = refl
different_filter p (x ∷ xs) o =
    let k = and_parts (not (among x xs)) (all_different xs) o in
    elim (p x) as (λ b. all_different (cond b (x ∷ filter p xs) (filter p xs)) ≡ true) [
      | true ↦ and_from (not (among x (filter p xs))) (all_different (filter p xs)) (not_from_false (among x (filter p xs)) (bool_ext (among x (filter p xs)) false (λ h. sym (not-true (among x xs) k.0) ∙ filter_in p xs x h) (λ h. absurd (false≢true h)))) (different_filter p xs k.1)
      | false ↦ different_filter p xs k.1
    ]

different_used_aggs : (us : List Bytes) (aggs : List NamedAgg) → all_different (used_aggs us aggs) ≡ true
different_used_aggs us [] = refl
different_used_aggs us (a ∷ aggs) =
    different_add_names (cond (among a.name us) (agg_names a.agg) []) (used_aggs us aggs) (different_used_aggs us aggs)

pub before_different :
    (cs : List Col) (s : Step) (us : List Bytes) → all_different (col_names cs) ≡ true → all_different us ≡ true
    → all_different (used_before cs s us) ≡ true
before_different cs (s_keep e) us n o = different_add_names (names_in e) us o
before_different cs (s_make x e) us n o =
    elim (among x us) as (λ b. all_different (cond b (add_names (names_in e) (filter (λ u. not (same_bytes u x)) us)) us) ≡ true) [ true ↦ different_add_names (names_in e) (filter (λ u. not (same_bytes u x)) us) (different_filter (λ u. not (same_bytes u x)) us o) | false ↦ o ]
before_different cs (s_pick xs) us n o = o
before_different cs (s_join m x y stay) us n o =
    different_add_names (x ∷ []) (intersect us (col_names cs)) (different_filter (λ z. among z (col_names cs)) us o)
before_different cs (s_group xs aggs) us n o = different_add_names xs (used_aggs us aggs) (different_used_aggs us aggs)
before_different cs (s_order ks) us n o = different_add_names (key_names ks) us o
before_different cs (s_take k) us n o = o
before_different cs (s_skip k) us n o = o
before_different cs (s_unite m) us n o = o
before_different cs s_distinct us n o = n

-- as many columns are read as names are used
pub project_exact :
    (us : List Bytes) (cs : List Col) → all_different us ≡ true → all_different (col_names cs) ≡ true → Within us (col_names cs)
    → length (project_cols us cs) ≡ length us
project_exact us cs o n f =
    let a : length (intersect (col_names cs) us) ≤ length us = intersect_length (col_names cs) us n in
    let b : length (intersect us (intersect (col_names cs) us)) ≤ length (intersect (col_names cs) us) = intersect_length us (intersect (col_names cs) us) o in
    let c : intersect us (intersect (col_names cs) us) ≡ us = intersect_all us (intersect (col_names cs) us) (λ x k. in_filter (λ y. among y us) (col_names cs) x (f x k) k) in
    omega (by_sums, names_length (project_cols us cs), ap length (project_names us cs), ap length c)
