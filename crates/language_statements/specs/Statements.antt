-- Steps and tables as views of a line, and what they say.
use Rattle.std.specs.Prelude.{◌≡◌, ℕ, ◌≤◌, Bool, true, false, cond, List, length, Ok, Err, codes, Result}
use Rattle.std.proofs.Math.Option.{Option, some, none}
use Rattle.meaning.specs.Base.{and_then, Bytes, same_bytes}
use Rattle.meaning.specs.Steps.{Decl, Step, s_keep, s_make, s_pick, s_join, s_group, s_order, s_take, s_skip, s_unite, s_distinct}
use Rattle.meaning.specs.Text.{then_read, expect, at_end, read_to_end, read_name, read_number}
use Rattle.code.specs.Room.{code_words, mark_words}
use Rattle.language_pieces.specs.Views.{ahead}
use Rattle.language_pieces.specs.declared.reader.Reader.{Reader}
use Rattle.language_expressions.specs.Views.{whole_expression}
use Rattle.language_statements.specs.Items.{all_names, keys_to_colon, all_keys, all_aggs, all_columns, aggs_left}
use Rattle.language_statements.specs.declared.views.Pair.{Pair}
use Rattle.language_statements.specs.declared.views.Verb.{Verb}
use Rattle.language_statements.specs.declared.views.Verb.TheVariants.{Keep as v_keep, Make as v_make, Pick as v_pick, Join as v_join, Left as v_left, Group as v_group, Order as v_order, Take as v_take, Skip as v_skip, Unite as v_unite, Distinct as v_distinct}
use Rattle.language_statements.specs.declared.views.Step.{Step as StepView}
use Rattle.language_statements.specs.declared.views.Step.TheVariants.{Keep, Make, Pick, Join, Group, Order, Take, Skip, Unite, Distinct}
use Rattle.language_statements.specs.declared.views.Table.{Table}

-- the verb that a piece is
abbrev pub verb_named : Bytes → Option Verb
verb_named p =
    cond (same_bytes p (codes "keep")) (some v_keep)
    (cond (same_bytes p (codes "make")) (some v_make)
    (cond (same_bytes p (codes "pick")) (some v_pick)
    (cond (same_bytes p (codes "join")) (some v_join)
    (cond (same_bytes p (codes "left")) (some v_left)
    (cond (same_bytes p (codes "group")) (some v_group)
    (cond (same_bytes p (codes "order")) (some v_order)
    (cond (same_bytes p (codes "take")) (some v_take)
    (cond (same_bytes p (codes "skip")) (some v_skip)
    (cond (same_bytes p (codes "unite")) (some v_unite)
    (cond (same_bytes p (codes "distinct")) (some v_distinct) none))))))))))

-- a name, and nothing behind it
abbrev pub lone_name : List Bytes → Option Bytes
lone_name l = read_to_end (read_name l)

-- a number, and nothing behind it
abbrev pub lone_number : List Bytes → Option ℕ
lone_number l = read_to_end (read_number l)

-- the columns that a join compares
pub record Compared : Type 0 where
  pub own : Bytes
  pub other : Bytes

-- x = y, and nothing behind it
unfoldable pub read_pair : List Bytes → Option Compared
read_pair l = then_read (read_name l) (λ x l1. expect (codes "=") l1 (λ l2. and_then (lone_name l2) (λ y. some (record { own = x; other = y }))))

-- what a view of such a pair stands for
abbrev pub pair_of : Pair → Compared
pair_of p = record { own = p.own.now; other = p.other.now }

-- what may stand behind make
abbrev pub make_line : List Bytes → Option Step
make_line l = then_read (read_name l) (λ x l1. expect (codes "=") l1 (λ l2. and_then (whole_expression l2) (λ e. some (s_make x e))))

-- what may stand behind join
abbrev pub join_line : Bool → List Bytes → Option Step
join_line stay l = then_read (read_name l) (λ t l1. expect (codes "on") l1 (λ l2. and_then (read_pair l2) (λ p. some (s_join t p.own p.other stay))))

-- what may stand behind group
abbrev pub group_line : List Bytes → Option Step
group_line l = then_read (keys_to_colon l) (λ ks l1. and_then (all_aggs l1) (λ aggs. some (s_group ks aggs)))

-- the step that a verb begins
abbrev pub verb_line : Verb → List Bytes → Option Step
verb_line v_keep l = and_then (whole_expression l) (λ e. some (s_keep e))
verb_line v_make l = make_line l
verb_line v_pick l = and_then (all_names l) (λ xs. some (s_pick xs))
verb_line v_join l = join_line false l
verb_line v_left l = expect (codes "join") l (λ l1. join_line true l1)
verb_line v_group l = group_line l
verb_line v_order l = and_then (all_keys l) (λ ks. some (s_order ks))
verb_line v_take l = and_then (lone_number l) (λ n. some (s_take n))
verb_line v_skip l = and_then (lone_number l) (λ n. some (s_skip n))
verb_line v_unite l = and_then (lone_name l) (λ t. some (s_unite t))
verb_line v_distinct l = at_end s_distinct l

-- the step that a view stands for, if its lists and its expression are right
abbrev pub step_of : StepView → Option Step
step_of (Keep r) = and_then (whole_expression (ahead r)) (λ e. some (s_keep e))
step_of (Make x r) = and_then (whole_expression (ahead r)) (λ e. some (s_make x.now e))
step_of (Pick n) = and_then (all_names (ahead n.reader)) (λ xs. some (s_pick xs))
step_of (Join t p stay) = some (s_join t.now p.own.now p.other.now stay)
step_of (Group k a) =
    then_read (keys_to_colon (ahead k.reader)) (λ ks l. and_then (aggs_left a.reader) (λ aggs. some (s_group ks aggs)))
step_of (Order o) = and_then (all_keys (ahead o.reader)) (λ ks. some (s_order ks))
step_of (Take n) = some (s_take n)
step_of (Skip n) = some (s_skip n)
step_of (Unite t) = some (s_unite t.now)
step_of Distinct = some s_distinct

-- the table that a view stands for, if its columns are right
abbrev pub table_of : Table → Option Decl
table_of t = and_then (all_columns (ahead t.columns.reader)) (λ cs. some (record { name = t.name.now; rows = t.rows; cols = cs }))

-- a fact of the reader of a step's expression, if it has one
abbrev pub OfExpression : (Reader → Type 0) → StepView → Type 0
OfExpression P (Keep r) = P r
OfExpression P (Make x r) = P r
OfExpression P _ = Unit {0}

-- the reader of a step's expression is on this line
abbrev pub OnLine : List ℕ → StepView → Type 0
OnLine line v = OfExpression (λ r. r.line.now ≡ line) v

-- what reading a step came to
abbrev pub StepRead : {E : Type 0} → Result StepView E → Option Step → List ℕ → Type 0
StepRead (Ok v) o line = (o ≡ step_of v) × OnLine line v
StepRead (Err f) o line = o ≡ none

-- so many words for marks and for code are enough for an expression of a line
abbrev pub Enough : ℕ → ℕ → Reader → Type 0
Enough marks code r = (mark_words (length r.line.now) ≤ marks) × (code_words (length r.line.now) ≤ code)

-- and for that of a step, if it has one
abbrev pub EnoughFor : ℕ → ℕ → StepView → Type 0
EnoughFor marks code v = OfExpression (Enough marks code) v
