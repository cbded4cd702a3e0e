-- What can be told of a question beforehand: the columns after each step, which columns are used, how many pages
-- that is.
use Rattle.std.specs.Prelude.{ℕ, ◌+◌, ◌*◌, ◌/◌, Bool, true, false, cond, not, ◌&&◌, List, [], ◌∷◌, ◌++◌, length, nat_le}
use Rattle.std.proofs.Math.Option.{Option, some, none}
use Rattle.meaning.specs.Base.{map_or, and_then, when, filter, each, Bytes, same_bytes, among}
use Rattle.meaning.specs.Values.{t_num, same_type, Col, type_of, names_in, col_type}
use Rattle.meaning.specs.Steps.{StoredCol, Decl, Agg, a_sum, a_count, a_min, a_max, a_first, NamedAgg, Step, s_keep, s_make, s_pick, s_join, s_group, s_order, s_take, s_skip, s_unite, s_distinct, find_decl, cols_named, agg_cols, valid_cols, same_cols, cols_exist, key_names, col_names}

-- the columns of a declared table
abbrev pub decl_cols : Decl → List Col
decl_cols d = each (λ s. s.col) d.cols

-- the columns of the declared table of this name
abbrev pub cols_of_table : List Decl → Bytes → Option (List Col)
cols_of_table ds n = and_then (find_decl ds n) (λ d. some (decl_cols d))

-- columns, if they are valid
abbrev pub checked_cols : List Col → Option (List Col)
checked_cols cs = when (valid_cols cs) (some cs)

-- the columns after a step, from the columns before it; none where the step does not fit
abbrev pub cols_after : List Decl → List Col → Step → Option (List Col)
cols_after ds cs (s_keep e) = and_then (type_of cs e) (λ u. when (same_type u t_num) (some cs))
cols_after ds cs (s_make x e) = and_then (type_of cs e) (λ u. checked_cols (cs ++ (record { name = x; ty = u } ∷ [])))
cols_after ds cs (s_pick xs) = and_then (cols_named cs xs) (λ es. checked_cols es)
cols_after ds cs (s_join n x y stay) =
    and_then (cols_of_table ds n) (λ es. and_then (col_type cs x) (λ u. and_then (col_type es y) (λ w.
    when (same_type u w && valid_cols (cs ++ es)) (some (cs ++ es)))))
cols_after ds cs (s_group xs aggs) =
    and_then (cols_named cs xs) (λ es. and_then (agg_cols cs aggs) (λ fs. checked_cols (es ++ fs)))
cols_after ds cs (s_order ks) = when (cols_exist cs (key_names ks)) (some cs)
cols_after ds cs (s_take n) = some cs
cols_after ds cs (s_skip n) = some cs
cols_after ds cs (s_unite n) = and_then (cols_of_table ds n) (λ es. when (same_cols cs es) (some cs))
cols_after ds cs s_distinct = some cs

-- the columns after steps
abbrev pub cols_after_all : List Decl → List Col → List Step → Option (List Col)
cols_after_all ds cs [] = some cs
cols_after_all ds cs (s ∷ ss) = and_then (cols_after ds cs s) (λ es. cols_after_all ds es ss)

-- names added to names, none twice
abbrev pub add_names : List Bytes → List Bytes → List Bytes
add_names [] ys = ys
add_names (x ∷ xs) ys = add_names xs (cond (among x ys) ys (x ∷ ys))

-- the names that are among others
abbrev pub intersect : List Bytes → List Bytes → List Bytes
intersect xs ys = filter (λ x. among x ys) xs

-- the column that an aggregate is over
abbrev pub agg_names : Agg → List Bytes
agg_names (a_sum x) = x ∷ []
agg_names a_count = []
agg_names (a_min x) = x ∷ []
agg_names (a_max x) = x ∷ []
agg_names (a_first x) = x ∷ []

-- the columns that those aggregates are over whose own columns are among us
abbrev pub used_aggs : List Bytes → List NamedAgg → List Bytes
used_aggs us [] = []
used_aggs us (a ∷ aggs) = add_names (cond (among a.name us) (agg_names a.agg) []) (used_aggs us aggs)

-- the columns used before a step, from us, those used after it; cs are all columns before it
abbrev pub used_before : List Col → Step → List Bytes → List Bytes
used_before cs (s_keep e) us = add_names (names_in e) us
used_before cs (s_make x e) us =
    cond (among x us) (add_names (names_in e) (filter (λ u. not (same_bytes u x)) us)) us
used_before cs (s_pick xs) us = us
used_before cs (s_join n x y stay) us = add_names (x ∷ []) (intersect us (col_names cs))
used_before cs (s_group xs aggs) us = add_names xs (used_aggs us aggs)
used_before cs (s_order ks) us = add_names (key_names ks) us
used_before cs (s_take n) us = us
used_before cs (s_skip n) us = us
used_before cs (s_unite n) us = us
used_before cs s_distinct us = col_names cs

-- the columns used before steps; after the last one all are
abbrev pub used : List Decl → List Col → List Step → List Bytes
used ds cs [] = col_names cs
used ds cs (s ∷ ss) = map_or (cols_after ds cs s) [] (λ es. used_before cs s (used ds es ss))

-- the table that a step names, if it names one
abbrev pub named_table : Step → Option Bytes
named_table (s_keep e) = none
named_table (s_make x e) = none
named_table (s_pick xs) = none
named_table (s_join n x y stay) = some n
named_table (s_group xs aggs) = none
named_table (s_order ks) = none
named_table (s_take n) = none
named_table (s_skip n) = none
named_table (s_unite n) = some n
named_table s_distinct = none

-- what f finds for the table that a step names, if it names one
abbrev pub of_named : {A : Type 0} → (Bytes → Option A) → Step → Option A
of_named f s = and_then (named_table s) f

-- the columns used of the table that a step names, from us, those used after the step; es are all columns of that
-- table
abbrev pub used_of_named : List Col → Step → List Bytes → List Bytes
used_of_named es (s_keep e) us = []
used_of_named es (s_make x e) us = []
used_of_named es (s_pick xs) us = []
used_of_named es (s_join n x y stay) us = add_names (y ∷ []) (intersect us (col_names es))
used_of_named es (s_group xs aggs) us = []
used_of_named es (s_order ks) us = []
used_of_named es (s_take n) us = []
used_of_named es (s_skip n) us = []
used_of_named es (s_unite n) us = us
used_of_named es s_distinct us = []

-- the pages of a column of n rows: 512 cells to a page, and a column begins on a page of its own
abbrev pub pages_for : ℕ → ℕ
pages_for n = (n + 511) / 512

-- the pages of these columns of a declared table
abbrev pub pages_used : Decl → List Bytes → ℕ
pages_used d us = length us * pages_for d.rows

-- the pages that steps read: of each table that one names, those of the columns used
abbrev pub pages_read_steps : List Decl → List Col → List Step → ℕ
pages_read_steps ds cs [] = 0
pages_read_steps ds cs (s ∷ ss) =
    map_or (cols_after ds cs s) 0 (λ es.
    map_or (of_named (find_decl ds) s) 0 (λ d. pages_used d (used_of_named (decl_cols d) s (used ds es ss)))
    + pages_read_steps ds es ss)

-- the pages that a question reads, of tables ds, from table n on: each page of a used column once, for each place
-- that names its table
abbrev pub pages_read : List Decl → Bytes → List Step → ℕ
pages_read ds n ss =
    map_or (find_decl ds n) 0 (λ d. pages_used d (used ds (decl_cols d) ss) + pages_read_steps ds (decl_cols d) ss)

-- does a step name this table
abbrev pub names_table : Step → Bytes → Bool
names_table s n = map_or (named_table s) false (λ m. same_bytes m n)

-- the columns of table n that are used where steps name it
abbrev pub used_by_steps : List Decl → List Col → List Step → Bytes → List Bytes
used_by_steps ds cs [] n = []
used_by_steps ds cs (s ∷ ss) n =
    map_or (cols_after ds cs s) [] (λ es.
    add_names
    (cond (names_table s n) (map_or (cols_of_table ds n) [] (λ fs. used_of_named fs s (used ds es ss))) [])
    (used_by_steps ds es ss n))

-- the columns of table n that are used at any place of a question that begins from table x
abbrev pub used_anywhere : List Decl → Bytes → List Step → Bytes → List Bytes
used_anywhere ds x ss n =
    map_or (cols_of_table ds x) [] (λ cs.
    add_names (cond (same_bytes x n) (used ds cs ss) []) (used_by_steps ds cs ss n))

-- do columns of n rows lie on pages below page b; without rows a column may begin at b, but not behind it
abbrev pub lie_below : ℕ → ℕ → List StoredCol → Bool
lie_below b n [] = true
lie_below b n (s ∷ ss) = nat_le (s.page + pages_for n) b && lie_below b n ss

-- have declared tables different names, none of those seen before, valid columns, and all pages below page b
abbrev pub valid_decls : ℕ → List Bytes → List Decl → Bool
valid_decls b seen [] = true
valid_decls b seen (d ∷ ds) =
    not (among d.name seen)
    && (valid_cols (decl_cols d) && (lie_below b d.rows d.cols && valid_decls b (d.name ∷ seen) ds))
