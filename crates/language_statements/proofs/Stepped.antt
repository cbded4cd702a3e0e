-- Steps: the definitions, by the word that a step begins with.
use Rattle.std.proofs.Common.{◌≡◌, ◌<◌, ℕ, Bool, true, false, cond, List, [], ◌∷◌, length, codes, Result, sym, refl, ap, ◌∙◌, subst, arith}
use mathlib.Core.Option.{Option, some, none}
use borrow.Author.Tests.{clash}
use Rattle.meaning.specs.Base.{and_then, Bytes, same_bytes}
use Rattle.meaning.specs.Steps.{Step, s_join, s_pick, s_order}
use Rattle.meaning.specs.Text.{Parsed, parsed, then_read, expect, at_end, head_piece, tail_pieces, read_to_end, read_name, read_number, join_line as join_text, step_line, table_line, read_columns}
use Rattle.language_pieces.specs.Pieces.{none_left}
use Rattle.language_pieces.proofs.Same.{same_turned}
use Rattle.language_expressions.specs.Views.{whole_expression}
use Rattle.language_statements.proofs.Listed.{expect_same, with_same, names_are, keys_are, columns_are}
use Rattle.language_statements.specs.Items.{keys_to_colon, all_aggs, all_columns}
use Rattle.language_statements.specs.Statements.{table_of, verb_named, verb_line, read_pair, join_line, lone_name, StepRead}
use Rattle.language_pieces.specs.Views.{ahead}
use Rattle.language_pieces.specs.declared.reader.Reader.{Reader}
use Rattle.language_statements.specs.declared.views.Table.{Table}
use Rattle.language_statements.specs.declared.views.Verb.{Verb}
use Rattle.language_statements.specs.declared.views.Verb.TheVariants.{Keep as v_keep, Make as v_make, Pick as v_pick, Join as v_join, Left as v_left, Group as v_group, Order as v_order, Take as v_take, Skip as v_skip, Unite as v_unite, Distinct as v_distinct}
use Rattle.language_statements.specs.declared.views.Step.{Step as StepView}

pub alone_is : {A : Type 0} (r : Option (Parsed A)) (x : A) (l : List Bytes) → r ≡ parsed x l → none_left l ≡ true → read_to_end r ≡ some x
alone_is r x [] e f = ap read_to_end e
alone_is r x (y ∷ l) e f = absurd (clash f)

pub alone_not : {A : Type 0} (r : Option (Parsed A)) (x : A) (l : List Bytes) → r ≡ parsed x l → none_left l ≡ false → read_to_end r ≡ none
alone_not r x [] e f = absurd (clash (sym f))
alone_not r x (y ∷ l) e f = ap read_to_end e

some_with : {A C D : Type 0} (r : Option (Parsed A)) (k : A → List Bytes → Option C) (f : C → Option D) → and_then (then_read r k) f ≡ then_read r (λ a l. and_then (k a l) f)
some_with none k f = refl
some_with (some g) k f = refl

some_must : {C D : Type 0} (w : Bytes) (l : List Bytes) (k : List Bytes → Option C) (f : C → Option D) → and_then (expect w l k) f ≡ expect w l (λ m. and_then (k m) f)
some_must w [] k f = refl
some_must w (x ∷ l) k f = elim (same_bytes w x) as (λ b. and_then (cond b (k l) none) f ≡ cond b (and_then (k l) f) none) [ true ↦ refl | false ↦ refl ]

some_no : {A C D : Type 0} (r : Option (Parsed A)) (g : A → C) (f : C → D) → and_then (and_then (read_to_end r) (λ y. some (g y))) (λ p. some (f p)) ≡ then_read r (λ y l. at_end (f (g y)) l)
some_no none g f = refl
some_no (some x) g f = by x.rest
  where
    by : (l : List Bytes) → and_then (and_then (at_end x.value_read l) (λ y. some (g y))) (λ p. some (f p)) ≡ at_end (f (g x.value_read)) l
    by [] = refl
    by (y ∷ l) = refl

-- behind a word that comes next
expect_read : {C : Type 0} (w : Bytes) (l m : List Bytes) (go : List Bytes → Option C) → 0 < length w → same_bytes (head_piece l) w ≡ true → m ≡ tail_pieces l → expect w l go ≡ go m
expect_read [] [] m go h e f = absurd (omega arith)
expect_read (y ∷ w) [] m go h e f = absurd (clash e)
expect_read w (x ∷ l) m go h e f = ap (λ b. cond b (go l) none) (same_turned w x ∙ e) ∙ ap go (sym f)

pub pair_read : (l l1 l2 : List Bytes) (x y : Bytes) → read_name l ≡ parsed x l1 → same_bytes (head_piece l1) (codes "=") ≡ true → l2 ≡ tail_pieces l1 → lone_name l2 ≡ some y → read_pair l ≡ some (record { own = x; other = y })
unfolding read_pair
pair_read l l1 l2 x y e f g h =
    ap (λ r. then_read r (λ a m. expect (codes "=") m (λ n. and_then (lone_name n) (λ b. some (record { own = a; other = b }))))) e
    ∙ (expect_read (codes "=") l1 l2 _ (omega arith) f g ∙ ap (λ o. and_then o (λ b. some (record { own = x; other = b }))) h)

join_same : (stay : Bool) (l : List Bytes) → join_text stay l ≡ join_line stay l
unfolding read_pair
join_same stay l = with_same (read_name l) _ _ (λ t l1. expect_same (codes "on") l1 _ _ (λ l2 h. sym (some_with (read_name l2) _ (λ p. some (s_join t p.own p.other stay)) ∙ with_same (read_name l2) _ _ (λ x l3. some_must (codes "=") l3 _ (λ p. some (s_join t p.own p.other stay)) ∙ expect_same (codes "=") l3 _ _ (λ l4 h4. some_no (read_name l4) (λ y. record { own = x; other = y }) (λ p. s_join t p.own p.other stay))))))

chosen : (b : Bool) (v : Verb) (l : List Bytes) (x y : Option Step) (vs : Option Verb) → x ≡ verb_line v l → y ≡ and_then vs (λ u. verb_line u l) → cond b x y ≡ and_then (cond b (some v) vs) (λ u. verb_line u l)
chosen true v l x y vs e f = e
chosen false v l x y vs e f = f

pub step_is : (p : Bytes) (l : List Bytes) → step_line p l ≡ and_then (verb_named p) (λ u. verb_line u l)
unfolding whole_expression keys_to_colon all_aggs
step_is p l =
    chosen (same_bytes p (codes "keep")) v_keep l _ _ _ refl
    (chosen (same_bytes p (codes "make")) v_make l _ _ _ refl
    (chosen (same_bytes p (codes "pick")) v_pick l _ _ _ (ap (λ o. and_then o (λ xs. some (s_pick xs))) (names_are l))
    (chosen (same_bytes p (codes "join")) v_join l _ _ _ (join_same false l)
    (chosen (same_bytes p (codes "left")) v_left l _ _ _ (expect_same (codes "join") l _ _ (λ m h. join_same true m))
    (chosen (same_bytes p (codes "group")) v_group l _ _ _ refl
    (chosen (same_bytes p (codes "order")) v_order l _ _ _ (ap (λ o. and_then o (λ ks. some (s_order ks))) (keys_are l))
    (chosen (same_bytes p (codes "take")) v_take l _ _ _ refl
    (chosen (same_bytes p (codes "skip")) v_skip l _ _ _ refl
    (chosen (same_bytes p (codes "unite")) v_unite l _ _ _ refl
    (chosen (same_bytes p (codes "distinct")) v_distinct l _ _ _ refl refl))))))))))

pub step_some : (p : Bytes) (l m : List Bytes) (v : Verb) → some v ≡ verb_named p → m ≡ l → step_line p l ≡ verb_line v m
step_some p l m v e f = step_is p l ∙ (ap (λ o. and_then o (λ u. verb_line u l)) (sym e) ∙ ap (verb_line v) (sym f))

pub as_read : {Expr : Type 0} (r : Result StepView Expr) (o o' : Option Step) (t t' : List ℕ) → o' ≡ o → t ≡ t' → StepRead r o t → StepRead r o' t'
as_read r o o' t t' e f h = subst (λ x. StepRead r o' x) f (subst (λ x. StepRead r x t) (sym e) h)

pub left_is : (l m : List Bytes) → same_bytes (head_piece l) (codes "join") ≡ true → m ≡ tail_pieces l → verb_line v_left l ≡ join_line true m
left_is l m e f = expect_read (codes "join") l m (λ l1. join_line true l1) (omega arith) e f

pub table_parts : (l l1 l2 m : List Bytes) (n : Bytes) (k : ℕ) → read_name l ≡ parsed n l1 → read_number l1 ≡ parsed k l2 → m ≡ l2 → table_line l ≡ and_then (all_columns m) (λ cs. some (record { name = n; rows = k; cols = cs }))
table_parts l l1 l2 m n k e f g =
    ap (λ r. then_read r (λ a q. then_read (read_number q) (λ b q2. and_then (read_columns (length q2) q2) (λ cs. some (record { name = a; rows = b; cols = cs }))))) e
    ∙ (ap (λ r. then_read r (λ b q2. and_then (read_columns (length q2) q2) (λ cs. some (record { name = n; rows = b; cols = cs })))) f
    ∙ ap (λ o. and_then o (λ cs. some (record { name = n; rows = k; cols = cs }))) (columns_are l2 ∙ ap all_columns (sym g)))

pub table_is : (l l1 : List Bytes) (q : Reader) (t : Table) → read_name l ≡ parsed t.name.now l1 → read_number l1 ≡ parsed t.rows (ahead q) → t.columns.reader ≡ q → table_line l ≡ table_of t
table_is l l1 q t e f g = table_parts l l1 (ahead q) (ahead t.columns.reader) t.name.now t.rows e f (ap (λ r. ahead r) g)
