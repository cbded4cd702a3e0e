-- What code that runs on projected tables has to work out: places of columns, cells of rows, and tests of what is used.
use Rattle.std.specs.Prelude.{◌≡◌, ℕ, Bool, true, false, cond, not, ◌&&◌, ◌||◌, List, [], ◌∷◌, ◌++◌, length, take}
use Rattle.std.proofs.Math.Option.{some}
use Rattle.meaning.specs.Base.{map_or, and_then, nth, any, each, filter, flat_map, Every, Bytes, same_bytes, among, all_different}
use Rattle.meaning.specs.Values.{null, Expr, Col, Row, get, eval, names_in}
use Rattle.meaning.specs.Steps.{NamedAgg, Step, s_keep, s_make, s_pick, s_join, s_group, s_order, s_take, s_skip, s_unite, s_distinct, Table, col_names, key_names, project_row, same_row, aggregate, group_keys, matches, or_null_row}
use Rattle.meaning.specs.Plan.{intersect, agg_names, used_before, used_of_named}
use Rattle.meaning.specs.Theorems.{WellFormed}
use Rattle.projection.specs.Projected.{project_cols, col_place, projected_rows}

-- a value by its name is the one at the place of its column
abbrev pub GetByPlace : Type 0
GetByPlace =
    (cs : List Col) (r : Row) (x : Bytes) → get cs r x ≡ map_or (and_then (col_place cs x) (nth r)) null (λ v. v)

-- among the columns that are used, the place of a column is the number of those before it
abbrev pub PlaceProjected : Type 0
PlaceProjected =
    (us : List Bytes) (x : Bytes) → among x us ≡ true → (cs : List Col) (i : ℕ) → col_place cs x ≡ some i
    → col_place (project_cols us cs) x ≡ some (length (project_cols us (take i cs)))

-- rows of which all columns go on stay as they are
abbrev pub AllProjected : Type 0
AllProjected =
    (cs : List Col) (rs : List Row) → all_different (col_names cs) ≡ true → Every (λ r. length r ≡ length cs) rs
    → each (project_row cs (col_names cs)) rs ≡ rs

-- names that are all among others
abbrev pub AmongAll : List Bytes → List Bytes → Type 0
AmongAll xs ys = (x : Bytes) → among x xs ≡ true → among x ys ≡ true

-- make, cell by cell: the cells that go on, then the new one if it is used
abbrev pub MakeByCells : Type 0
MakeByCells =
    (us : List Bytes) (cs : List Col) (c : Col) (e : Expr) (t b : Table) → WellFormed t
    → among c.name (col_names t.cols) ≡ false
    → AmongAll (intersect (col_names cs) us) (col_names t.cols)
    → projected_rows (cs ++ (c ∷ [])) (col_names (project_cols us (cs ++ (c ∷ [])))) t b (s_make c.name e)
    ≡ each
    (λ r.
    project_row t.cols (intersect (col_names cs) us) r ++ cond (among c.name us) (eval t.cols r e ∷ []) [])
    t.rows

-- join, cell by cell: the cells of the row that go on, then those of its match
abbrev pub JoinByCells : Type 0
JoinByCells =
    (us : List Bytes) (cs es : List Col) (m x y : Bytes) (stay : Bool) (t b : Table) → WellFormed t
    → AmongAll (intersect (col_names cs) us) (col_names t.cols)
    → ((z : Bytes) → among z (intersect (col_names es) us) ≡ true → among z (col_names t.cols) ≡ false)
    → projected_rows (cs ++ es) (col_names (project_cols us (cs ++ es))) t b (s_join m x y stay)
    ≡ flat_map
    (λ r.
    each
    (λ s. project_row t.cols (intersect (col_names cs) us) r ++ project_row b.cols (intersect (col_names es) us) s)
    (or_null_row stay (length b.cols) (matches b y (get t.cols r x))))
    t.rows

-- the names of the columns that aggregates make
abbrev pub agg_col_names : List NamedAgg → List Bytes
agg_col_names aggs = each (λ a. a.name) aggs

-- the aggregates whose columns are used
abbrev pub aggs_used : List Bytes → List NamedAgg → List NamedAgg
aggs_used us aggs = filter (λ a. among a.name us) aggs

-- group, cell by cell: the cells of the key that go on, then the aggregates that are used
abbrev pub GroupByCells : Type 0
GroupByCells =
    (us : List Bytes) (es fs : List Col) (xs : List Bytes) (aggs : List NamedAgg) (t b : Table)
    → col_names es ≡ xs → col_names fs ≡ agg_col_names aggs → all_different (xs ++ agg_col_names aggs) ≡ true
    → projected_rows (es ++ fs) (col_names (project_cols us (es ++ fs))) t b (s_group xs aggs)
    ≡ each
    (λ k.
    project_row es (intersect xs us) k
    ++ each (λ a. aggregate t.cols (filter (λ r. same_row (project_row t.cols xs r) k) t.rows) a.agg) (aggs_used us aggs))
    (group_keys t.cols xs t.rows)

-- is column x used before a step, by tests of us, the columns used after it; cs are all columns before it
abbrev pub used_test : List Col → Step → List Bytes → Bytes → Bool
used_test cs (s_keep e) us x = among x (names_in e) || among x us
used_test cs (s_make y e) us x =
    cond (among y us) (among x (names_in e) || (among x us && not (same_bytes x y))) (among x us)
used_test cs (s_pick xs) us x = among x us
used_test cs (s_join n y z stay) us x = same_bytes x y || (among x us && among x (col_names cs))
used_test cs (s_group xs aggs) us x =
    among x xs || any (λ a. among a.name us && among x (agg_names a.agg)) aggs
used_test cs (s_order ks) us x = among x (key_names ks) || among x us
used_test cs (s_take n) us x = among x us
used_test cs (s_skip n) us x = among x us
used_test cs (s_unite n) us x = among x us
used_test cs s_distinct us x = among x (col_names cs)

-- what is used before a step can be told by these tests
abbrev pub UsedByMembership : Type 0
UsedByMembership =
    (cs : List Col) (s : Step) (us : List Bytes) (x : Bytes) → among x (used_before cs s us) ≡ used_test cs s us x

-- so can what is used of the table that a join names
abbrev pub JoinUsedByMembership : Type 0
JoinUsedByMembership =
    (es : List Col) (n y z : Bytes) (stay : Bool) (us : List Bytes) (x : Bytes)
    → among x (used_of_named es (s_join n y z stay) us) ≡ (same_bytes x z || (among x us && among x (col_names es)))
