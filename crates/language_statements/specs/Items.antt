-- The parts of statements that are read one by one, and the lists of them.
use Rattle.std.specs.Borrow.{Bor}
use Rattle.std.specs.Prelude.{ℕ, suc, ◌<◌, true, false, cond, List, [], ◌∷◌, length, Some, None, Ok, Err, codes, Option as Given, Result, ◌≡◌}
use Rattle.std.proofs.Math.Option.{Option, some, none}
use Rattle.meaning.specs.Base.{and_then, Bytes, same_bytes}
use Rattle.meaning.specs.Steps.{StoredCol, Agg, a_sum, a_count, a_min, a_max, a_first, NamedAgg, SortKey}
use Rattle.meaning.specs.Text.{Parsed, parsed, then_read, expect, at_end, head_piece, tail_pieces, read_name, read_number, read_type, read_aggs, names_to_colon}
use Rattle.values.specs.Types.{type_of_kind}
use Rattle.language_pieces.specs.Views.{ahead}
use Rattle.language_pieces.specs.declared.reader.Reader.{Reader}
use Rattle.language_statements.specs.Lists.{all_items, Left}
use Rattle.language_statements.specs.declared.views.Column.{Column}
use Rattle.language_statements.specs.declared.views.SortKey.{SortKey as SortKeyView}
use Rattle.language_statements.specs.declared.views.Aggregates.{Aggregates}
use Rattle.language_statements.specs.declared.views.GroupKeys.{GroupKeys}
use Rattle.language_statements.specs.declared.views.Function.{Function}
use Rattle.language_statements.specs.declared.views.Function.TheVariants.{Sum, Min, Max, First}
use Rattle.language_statements.specs.declared.views.Aggregate.{Aggregate}
use Rattle.language_statements.specs.declared.views.Aggregate.TheVariants.{Count, Of}
use Rattle.language_statements.specs.declared.views.NamedAggregate.{NamedAggregate}

-- what a view of a key stands for
abbrev pub key_of : SortKeyView → SortKey
key_of k = record { name = k.name.now; descending = k.descending }

-- a function of a column
abbrev pub agg_by : Function → Bytes → Agg
agg_by Sum x = a_sum x
agg_by Min x = a_min x
agg_by Max x = a_max x
agg_by First x = a_first x

-- what a view of an aggregate stands for
abbrev pub agg_of : Aggregate → Agg
agg_of Count = a_count
agg_of (Of f x) = agg_by f x.now

-- what a view of a named aggregate stands for
abbrev pub named_agg_of : NamedAggregate → NamedAgg
named_agg_of v = record { name = v.name.now; agg = agg_of v.aggregate }

-- what a view of a column stands for
abbrev pub column_of : Column → StoredCol
column_of v = record { col = record { name = v.name.now; ty = type_of_kind v.kind }; page = v.page }

-- a key to order by
abbrev pub read_key : List Bytes → Option (Parsed SortKey)
read_key l =
    cond (same_bytes (head_piece l) (codes "-"))
    (then_read (read_name (tail_pieces l)) (λ y l1. parsed (record { name = y; descending = true }) l1))
    (then_read (read_name l) (λ y l1. parsed (record { name = y; descending = false }) l1))

-- the function that a piece names
abbrev pub function_named : Bytes → Option Function
function_named p =
    cond (same_bytes p (codes "sum")) (some Sum)
    (cond (same_bytes p (codes "min")) (some Min)
    (cond (same_bytes p (codes "max")) (some Max)
    (cond (same_bytes p (codes "first")) (some First) none)))

-- a word that is looked up is what o says
abbrev pub Named : {A E : Type 0} → Option A → Result A E → Type 0
Named o (Ok a) = o ≡ some a
Named o (Err e) = o ≡ none

-- an aggregate: count, or a function of a column
unfoldable pub read_aggregate : List Bytes → Option (Parsed Agg)
read_aggregate l =
    cond (same_bytes (head_piece l) (codes "count")) (parsed a_count (tail_pieces l))
    (and_then (function_named (head_piece l)) (λ f. then_read (read_name (tail_pieces l)) (λ x l1. parsed (agg_by f x) l1)))

-- an aggregate with its name
abbrev pub read_named_agg : List Bytes → Option (Parsed NamedAgg)
read_named_agg l =
    then_read (read_name l) (λ n l1. expect (codes "=") l1 (λ l2.
    then_read (read_aggregate l2) (λ a l3. parsed (record { name = n; agg = a }) l3)))

-- a column of a table
abbrev pub read_column : List Bytes → Option (Parsed StoredCol)
read_column l =
    then_read (read_name l) (λ n l1. then_read (read_type l1) (λ t l2.
    then_read (read_number l2) (λ p l3. parsed (record { col = record { name = n; ty = t }; page = p }) l3)))

-- what is left behind a reading, if anything was read, has fewer pieces
abbrev pub Shorter : {A : Type 0} → ℕ → Option (Parsed A) → Type 0
Shorter n none = Unit {0}
Shorter n (some p) = length p.rest < n

-- whatever is read, fewer pieces are left behind it
abbrev pub Shortens : {A : Type 0} → (List Bytes → Option (Parsed A)) → Type 0
Shortens reads = (l : List Bytes) → Shorter (length l) (reads l)

-- the names that these pieces are, all of them
abbrev pub all_names : List Bytes → Option (List Bytes)
all_names l = all_items read_name l

-- the names up to a colon
unfoldable pub keys_to_colon : List Bytes → Option (Parsed (List Bytes))
keys_to_colon l = names_to_colon (suc (length l)) l

-- the keys to order by that these pieces are, all of them
abbrev pub all_keys : List Bytes → Option (List SortKey)
all_keys l = all_items read_key l

-- the aggregates that these pieces are, all of them
unfoldable pub all_aggs : List Bytes → Option (List NamedAgg)
all_aggs l = read_aggs (suc (length l)) l

-- the columns that these pieces are, all of them
abbrev pub all_columns : List Bytes → Option (List StoredCol)
all_columns l = all_items read_column l

-- the aggregates that are left: none where no more is to come
abbrev pub aggs_left : Given Reader → Option (List NamedAgg)
aggs_left None = some []
aggs_left (Some r) = all_aggs (ahead r)

-- what is left of names up to a colon
abbrev pub group_keys_left : GroupKeys → Left (Parsed (List Bytes))
group_keys_left k = record { whole = keys_to_colon (ahead k.reader); pieces = ahead k.reader }

-- the pieces that are left of aggregates
abbrev pub pieces_left : Given Reader → List Bytes
pieces_left None = []
pieces_left (Some r) = ahead r

-- the aggregates behind one: more behind a comma, none at the end of the line
abbrev pub more_aggs : List Bytes → Option (List NamedAgg)
more_aggs l = cond (same_bytes (head_piece l) (codes ",")) (all_aggs (tail_pieces l)) (at_end [] l)

-- the line of a reader that is still there is the one before
abbrev pub SameLine : Given Reader → Given Reader → Type 0
SameLine before None = Unit {0}
SameLine None (Some r) = ⊥
SameLine (Some q) (Some r) = r.line.now ≡ q.line.now

-- the reader is still there, on the same line
abbrev pub StillOnLine : Given Reader → Given Reader → Type 0
StillOnLine (Some q) (Some r) = r.line.now ≡ q.line.now
StillOnLine _ _ = ⊥

-- what is left of aggregates
abbrev pub aggregates_left : Aggregates → Left (List NamedAgg)
aggregates_left a = record { whole = aggs_left a.reader; pieces = pieces_left a.reader }

-- a name in front of others, and what stands behind them
abbrev pub key_more : Bor Bytes → Parsed (List Bytes) → Parsed (List Bytes)
key_more v p = record { value_read = v.now ∷ p.value_read; rest = p.rest }

-- no names, and what stands behind them
abbrev pub key_over : List Bytes → Parsed (List Bytes)
key_over l = record { value_read = []; rest = l }
