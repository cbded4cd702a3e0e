-- Lists of items: what is read item by item is the list of the definitions.
use Rattle.std.proofs.Common.{◌≡◌, ℕ, zero, suc, ◌<◌, ◌≤◌, Bool, true, false, cond, List, [], ◌∷◌, length, codes, Some, Ok, Err, Option as Given, Result, is_ok, is_err, sym, refl, ap, ◌∙◌, subst, arith}
use mathlib.Core.Option.{Option, some, none}
use borrow.Author.Tests.{clash}
use Rattle.meaning.specs.Base.{and_then, when, is_some, Bytes, same_bytes}
use Rattle.meaning.specs.Steps.{StoredCol, NamedAgg, SortKey, a_count, a_sum, a_min, a_max, a_first, s_group}
use Rattle.meaning.specs.Text.{Parsed, parsed, then_read, expect, at_end, head_piece, tail_pieces, read_name, read_number, read_type, read_agg, is_name, read_names, read_keys, read_aggs, names_to_colon, read_columns}
use Rattle.language_pieces.specs.Pieces.{none_left}
use Rattle.language_pieces.specs.Views.{ahead}
use Rattle.language_pieces.specs.declared.reader.Reader.{Reader}
use Rattle.language_statements.specs.Items.{Shorter, Shortens, read_key, read_named_agg, read_column, read_aggregate, keys_to_colon, all_aggs, more_aggs, aggs_left, pieces_left, key_over, key_more, group_keys_left}
use Rattle.language_statements.specs.Lists.{items_within, all_items, Left, items_left, GoesOn, ItemRead, Unchanged, Kept}
use Rattle.language_statements.specs.Shorter.{name_shorter, aggregate_shorter, named_agg_shorter}
use Rattle.language_statements.specs.Statements.{group_line}
use Rattle.language_statements.specs.declared.views.GroupKeys.{GroupKeys}

-- items, one after another
pub unchanged_more : {W V : Type 0} (more : V → W → W) (v : V) (a b c : Left W) → Unchanged more a b → GoesOn (more v) b c → Unchanged more a c
unchanged_more {W} more v a b c h k f u = h f u ∙ (ap (λ o. and_then o (λ w. some (f w))) k.is ∙ by c.whole)
  where
    by : (o : Option W) → and_then (and_then o (λ w. some (more v w))) (λ w. some (f w)) ≡ and_then o (λ w. some (f w))
    by none = refl
    by (some w) = ap some (u v w)

still_some : {A C : Type 0} (o : Option A) (f : A → C) → is_some (and_then o (λ x. some (f x))) ≡ is_some o
still_some none f = refl
still_some (some x) f = refl

pub unchanged_some : {W V : Type 0} (more : V → W → W) (a b : Left W) → Unchanged more a b → is_some a.whole ≡ is_some b.whole
unchanged_some more a b h = sym (still_some a.whole (λ w. [])) ∙ (ap is_some (h (λ w. []) (λ v w. refl)) ∙ still_some b.whole (λ w. []))

pub unchanged_end : {W V : Type 0} (over : List Bytes → W) (more : V → W → W) (a b c : Left W) → Unchanged more a b → b.whole ≡ some (over c.pieces) → Kept over more a c
unchanged_end over more a b c h e f u = h f u ∙ ap (λ o. and_then o (λ w. some (f w))) e

pub refused : {W V E : Type 0} (over : List Bytes → W) (more : V → W → W) (a b : Left W) (r : Result (Given V) E) → is_err r ≡ true → a.whole ≡ none → ItemRead over more a r b
refused over more a b (Ok o) e h = absurd (clash e)
refused over more a b (Err x) e h = h

pub err_none : {A B E : Type 0} (r : Result A E) (o : Option B) → is_err r ≡ true → o ≡ none → is_ok r ≡ is_some o
err_none (Ok x) o e h = absurd (clash e)
err_none (Err x) o e h = ap is_some (sym h)

-- equal parts make equal wholes
cond_same : {A : Type 0} (b : Bool) (x x' y : A) → x ≡ x' → cond b x y ≡ cond b x' y
cond_same true x x' y e = e
cond_same false x x' y e = refl

then_same : {A C : Type 0} (r : Option (Parsed A)) (k k' : A → List Bytes → Option C) (n : ℕ) → Shorter n r → ((a : A) (l : List Bytes) → length l < n → k a l ≡ k' a l) → then_read r k ≡ then_read r k'
then_same none k k' n h f = refl
then_same (some p) k k' n h f = f p.value_read p.rest h

pub expect_same : {C : Type 0} (w : Bytes) (l : List Bytes) (k k' : List Bytes → Option C) → ((l1 : List Bytes) → length l1 < length l → k l1 ≡ k' l1) → expect w l k ≡ expect w l k'
expect_same w [] k k' f = refl
expect_same w (x ∷ l) k k' f = cond_same (same_bytes w x) _ _ none (f l (omega arith))

with_with : {A C D : Type 0} (r : Option (Parsed A)) (f : A → List Bytes → Option (Parsed C)) (k : C → List Bytes → Option D) → then_read (then_read r f) k ≡ then_read r (λ a l. then_read (f a l) k)
with_with none f k = refl
with_with (some g) f k = refl

with_must : {C D : Type 0} (p : Bytes) (l : List Bytes) (f : List Bytes → Option (Parsed C)) (k : C → List Bytes → Option D) → then_read (expect p l f) k ≡ expect p l (λ l1. then_read (f l1) k)
with_must p [] f k = refl
with_must p (x ∷ l) f k = elim (same_bytes p x) as (λ b. then_read (cond b (f l) none) k ≡ cond b (then_read (f l) k) none) [ true ↦ refl | false ↦ refl ]

pub with_same : {A C : Type 0} (r : Option (Parsed A)) (k k' : A → List Bytes → Option C) → ((a : A) (l : List Bytes) → k a l ≡ k' a l) → then_read r k ≡ then_read r k'
with_same none k k' f = refl
with_same (some g) k k' f = f g.value_read g.rest

-- items up to the end of a line
items_fuel : {A : Type 0} (reads : List Bytes → Option (Parsed A)) → Shortens reads → (n m : ℕ) (l : List Bytes) → length l ≤ n → length l ≤ m → items_within reads n l ≡ items_within reads m l
items_fuel reads s n m [] h k = refl
items_fuel reads s zero m (x ∷ l) h k = absurd (omega arith)
items_fuel reads s (suc n) zero (x ∷ l) h k = absurd (omega arith)
items_fuel {A} reads s (suc n) (suc m) (x ∷ l) h k = by (reads (x ∷ l)) (s (x ∷ l)) (λ l1 i. items_fuel reads s n m l1 (omega arith) (omega arith))
  where
    by : (r : Option (Parsed A)) → Shorter (suc (length l)) r → ((l1 : List Bytes) → length l1 ≤ length l → items_within reads n l1 ≡ items_within reads m l1) → then_read r (λ a l1. and_then (items_within reads n l1) (λ more. some (a ∷ more))) ≡ then_read r (λ a l1. and_then (items_within reads m l1) (λ more. some (a ∷ more)))
    by none q f = refl
    by (some p) q f = ap (λ o. and_then o (λ more. some (p.value_read ∷ more))) (f p.rest (omega arith))

pub items_over : {A : Type 0} (reads : List Bytes → Option (Parsed A)) (l : List Bytes) → none_left l ≡ true → all_items reads l ≡ some []
unfolding all_items
items_over reads [] e = refl
items_over reads (x ∷ l) e = absurd (clash e)

pub items_bad : {A : Type 0} (reads : List Bytes → Option (Parsed A)) (l : List Bytes) → none_left l ≡ false → reads l ≡ none → all_items reads l ≡ none
unfolding all_items
items_bad reads [] e h = absurd (clash (sym e))
items_bad reads (x ∷ l) e h = ap (λ r. then_read r (λ a l1. and_then (items_within reads (length l) l1) (λ more. some (a ∷ more)))) h

pub items_one : {A : Type 0} (reads : List Bytes → Option (Parsed A)) (l l1 : List Bytes) (v : A) → Shortens reads → none_left l ≡ false → reads l ≡ parsed v l1 → GoesOn (λ xs. v ∷ xs) (items_left reads l) (items_left reads l1)
unfolding all_items
items_one reads [] l1 v s e h = absurd (clash (sym e))
items_one reads (x ∷ l) l1 v s e h =
    let q : length l1 < suc (length l) = subst (Shorter (suc (length l))) h (s (x ∷ l)) in
    record {
      is = ap (λ r. then_read r (λ a m. and_then (items_within reads (length l) m) (λ more. some (a ∷ more)))) h ∙ ap (λ o. and_then o (λ more. some (v ∷ more))) (items_fuel reads s (length l) (length l1) l1 (omega arith) (omega arith));
      fewer = q;
    }

-- the lists of the definitions are such items
names_within : (n : ℕ) (l : List Bytes) → read_names n l ≡ items_within read_name n l
names_within n [] = refl
names_within zero (x ∷ l) = refl
names_within (suc n) (x ∷ l) = by (is_name x) (names_within n l)
  where
    by : (b : Bool) → read_names n l ≡ items_within read_name n l → when b (and_then (read_names n l) (λ more. some (x ∷ more))) ≡ then_read (cond b (parsed x l) none) (λ y l1. and_then (items_within read_name n l1) (λ more. some (y ∷ more)))
    by true h = ap (λ o. and_then o (λ more. some (x ∷ more))) h
    by false h = refl

keys_within : (n : ℕ) (l : List Bytes) → read_keys n l ≡ items_within read_key n l
keys_within n [] = refl
keys_within zero (x ∷ l) = refl
keys_within (suc n) (x ∷ l) = by (same_bytes x (codes "-")) (is_name x) (keys_within n)
  where
    more : SortKey → List Bytes → Option (List SortKey)
    more k l1 = and_then (items_within read_key n l1) (λ ks. some (k ∷ ks))

    by : (a b : Bool) → ((l1 : List Bytes) → read_keys n l1 ≡ items_within read_key n l1) → cond a (then_read (read_name l) (λ y l1. and_then (read_keys n l1) (λ ks. some (record { name = y; descending = true } ∷ ks)))) (when b (and_then (read_keys n l) (λ ks. some (record { name = x; descending = false } ∷ ks)))) ≡ then_read (cond a (then_read (read_name l) (λ y l1. parsed (record { name = y; descending = true }) l1)) (then_read (cond b (parsed x l) none) (λ y l1. parsed (record { name = y; descending = false }) l1))) more
    by true b h = with_same (read_name l) _ _ (λ y l1. ap (λ o. and_then o (λ ks. some (record { name = y; descending = true } ∷ ks))) (h l1)) ∙ sym (with_with (read_name l) (λ y l1. parsed (record { name = y; descending = true }) l1) more)
    by false true h = ap (λ o. and_then o (λ ks. some (record { name = x; descending = false } ∷ ks))) (h l)
    by false false h = refl

columns_within : (n : ℕ) (l : List Bytes) → read_columns n l ≡ items_within read_column n l
columns_within n [] = refl
columns_within zero (x ∷ l) = refl
columns_within (suc n) (x ∷ l) = by (is_name x) (columns_within n)
  where
    more : StoredCol → List Bytes → Option (List StoredCol)
    more k l1 = and_then (items_within read_column n l1) (λ ks. some (k ∷ ks))

    by : (b : Bool) → ((l1 : List Bytes) → read_columns n l1 ≡ items_within read_column n l1) → when b (then_read (read_type l) (λ t l1. then_read (read_number l1) (λ p l2. and_then (read_columns n l2) (λ cs. some (record { col = record { name = x; ty = t }; page = p } ∷ cs))))) ≡ then_read (then_read (cond b (parsed x l) none) (λ n l1. then_read (read_type l1) (λ t l2. then_read (read_number l2) (λ p l3. parsed (record { col = record { name = n; ty = t }; page = p }) l3)))) more
    by false h = refl
    by true h = with_same (read_type l) _ _ (λ t l1. with_same (read_number l1) _ _ (λ p l2. ap (λ o. and_then o (λ cs. some (record { col = record { name = x; ty = t }; page = p } ∷ cs))) (h l2)) ∙ sym (with_with (read_number l1) (λ p l3. parsed (record { col = record { name = x; ty = t }; page = p }) l3) more)) ∙ sym (with_with (read_type l) (λ t l2. then_read (read_number l2) (λ p l3. parsed (record { col = record { name = x; ty = t }; page = p }) l3)) more)

pub names_are : (l : List Bytes) → read_names (length l) l ≡ all_items read_name l
unfolding all_items
names_are l = names_within (length l) l

pub keys_are : (l : List Bytes) → read_keys (length l) l ≡ all_items read_key l
unfolding all_items
keys_are l = keys_within (length l) l

pub columns_are : (l : List Bytes) → read_columns (length l) l ≡ all_items read_column l
unfolding all_items
columns_are l = columns_within (length l) l

-- names up to a colon
pub keys_end : (l : List Bytes) → same_bytes (head_piece l) (codes ":") ≡ true → keys_to_colon l ≡ parsed [] (tail_pieces l)
unfolding keys_to_colon
keys_end [] e = absurd (clash e)
keys_end (x ∷ l) e = ap (λ b. cond b (parsed [] l) (when (is_name x) (then_read (names_to_colon (suc (length l)) l) (λ ks l1. parsed (x ∷ ks) l1)))) e

keys_more : (x : Bytes) (l : List Bytes) → same_bytes x (codes ":") ≡ false → keys_to_colon (x ∷ l) ≡ then_read (read_name (x ∷ l)) (λ y l1. then_read (keys_to_colon l1) (λ ks l2. parsed (y ∷ ks) l2))
unfolding keys_to_colon
keys_more x l e = ap (λ b. cond b (parsed [] l) (when (is_name x) (then_read (names_to_colon (suc (length l)) l) (λ ks l1. parsed (x ∷ ks) l1)))) e ∙ elim (is_name x) as (λ b. when b (then_read (names_to_colon (suc (length l)) l) (λ ks l1. parsed (x ∷ ks) l1)) ≡ then_read (cond b (parsed x l) none) (λ y l1. then_read (names_to_colon (suc (length l1)) l1) (λ ks l2. parsed (y ∷ ks) l2))) [ true ↦ refl | false ↦ refl ]

keys_next : (l : List Bytes) → same_bytes (head_piece l) (codes ":") ≡ false → keys_to_colon l ≡ then_read (read_name l) (λ y l1. then_read (keys_to_colon l1) (λ ks l2. parsed (y ∷ ks) l2))
unfolding keys_to_colon
keys_next [] e = refl
keys_next (x ∷ l) e = keys_more x l e

pub keys_bad : (l : List Bytes) → same_bytes (head_piece l) (codes ":") ≡ false → read_name l ≡ none → keys_to_colon l ≡ none
keys_bad l e f = keys_next l e ∙ ap (λ r. then_read r (λ y m. then_read (keys_to_colon m) (λ ks l2. parsed (y ∷ ks) l2))) f

pub keys_one : (l l1 : List Bytes) (p : Bytes) → same_bytes (head_piece l) (codes ":") ≡ false → read_name l ≡ parsed p l1 → GoesOn (λ q. record { value_read = p ∷ q.value_read; rest = q.rest }) (record { whole = keys_to_colon l; pieces = l }) (record { whole = keys_to_colon l1; pieces = l1 })
keys_one l l1 p e f =
    record {
      is = keys_next l e ∙ ap (λ r. then_read r (λ y m. then_read (keys_to_colon m) (λ ks l2. parsed (y ∷ ks) l2))) f;
      fewer = subst (Shorter (length l)) f (name_shorter l);
    }

-- aggregates
pub agg_same : (l : List Bytes) → read_agg l ≡ read_aggregate l
unfolding read_aggregate
agg_same [] = refl
agg_same (x ∷ l) = by (same_bytes x (codes "count")) (same_bytes x (codes "sum")) (same_bytes x (codes "min")) (same_bytes x (codes "max")) (same_bytes x (codes "first"))
  where
    by : (a b c d e : Bool) → cond a (parsed a_count l) (cond b (then_read (read_name l) (λ n l1. parsed (a_sum n) l1)) (cond c (then_read (read_name l) (λ n l1. parsed (a_min n) l1)) (cond d (then_read (read_name l) (λ n l1. parsed (a_max n) l1)) (cond e (then_read (read_name l) (λ n l1. parsed (a_first n) l1)) none)))) ≡ cond a (parsed a_count l) (and_then (cond b (some Rattle.language_statements.specs.declared.views.Function.TheVariants.Sum) (cond c (some Rattle.language_statements.specs.declared.views.Function.TheVariants.Min) (cond d (some Rattle.language_statements.specs.declared.views.Function.TheVariants.Max) (cond e (some Rattle.language_statements.specs.declared.views.Function.TheVariants.First) none)))) (λ f. then_read (read_name l) (λ n l1. parsed (Rattle.language_statements.specs.Items.agg_by f n) l1)))
    by true b c d e = refl
    by false true c d e = refl
    by false false true d e = refl
    by false false false true e = refl
    by false false false false true = refl
    by false false false false false = refl

agg_shorter : (l : List Bytes) → Shorter (length l) (read_agg l)
agg_shorter l = subst (Shorter (length l)) (sym (agg_same l)) (aggregate_shorter l)

after_at_most : (l : List Bytes) → length (tail_pieces l) ≤ length l
after_at_most [] = omega arith
after_at_most (x ∷ l) = omega arith

aggs_fuel : (n m : ℕ) (l : List Bytes) → length l < n → length l < m → read_aggs n l ≡ read_aggs m l
aggs_fuel zero m l h k = absurd (omega arith)
aggs_fuel (suc n) zero l h k = absurd (omega arith)
aggs_fuel (suc n) (suc m) l h k =
    then_same (read_name l) _ _ (length l) (name_shorter l) (λ x l1 b1. expect_same (codes "=") l1 _ _ (λ l2 b2.
    then_same (read_agg l2) _ _ (length l2) (agg_shorter l2) (λ a l3 b3. cond_same (same_bytes (head_piece l3) (codes ",")) _ _ _
    (ap (λ o. and_then o (λ more. some (record { name = x; agg = a } ∷ more))) (aggs_fuel n m (tail_pieces l3) (omega (arith, after_at_most l3)) (omega (arith, after_at_most l3)))))))

abbrev pub on_aggs : NamedAgg → List Bytes → Option (List NamedAgg)
on_aggs x l = cond (same_bytes (head_piece l) (codes ",")) (and_then (all_aggs (tail_pieces l)) (λ xs. some (x ∷ xs))) (at_end (x ∷ []) l)

pub on_next : (l : List Bytes) → all_aggs l ≡ then_read (read_named_agg l) on_aggs
unfolding all_aggs
on_next l =
    then_same (read_name l) _ _ (length l) (name_shorter l) (λ x l1 b1.
    expect_same (codes "=") l1 _ _ (λ l2 b2.
    then_same (read_agg l2) _ _ (length l2) (agg_shorter l2) (λ a l3 b3. cond_same (same_bytes (head_piece l3) (codes ",")) _ _ _
    (ap (λ o. and_then o (λ more. some (record { name = x; agg = a } ∷ more))) (aggs_fuel (length l) (suc (length (tail_pieces l3))) (tail_pieces l3) (omega (arith, after_at_most l3)) (omega arith))))
    ∙ (ap (λ r. then_read r (λ a l3. on_aggs (record { name = x; agg = a }) l3)) (agg_same l2) ∙ sym (with_with (read_aggregate l2) _ on_aggs)))
    ∙ sym (with_must (codes "=") l1 _ on_aggs))
    ∙ sym (with_with (read_name l) _ on_aggs)

more_is : (x : NamedAgg) (l : List Bytes) → on_aggs x l ≡ and_then (more_aggs l) (λ xs. some (x ∷ xs))
more_is x [] = refl
more_is x (y ∷ l) = elim (same_bytes y (codes ",")) as (λ b. cond b (and_then (all_aggs l) (λ xs. some (x ∷ xs))) none ≡ and_then (cond b (all_aggs l) none) (λ xs. some (x ∷ xs))) [ true ↦ refl | false ↦ refl ]

aggs_next : (l : List Bytes) → all_aggs l ≡ then_read (read_named_agg l) (λ x l1. and_then (more_aggs l1) (λ xs. some (x ∷ xs)))
aggs_next l = on_next l ∙ with_same (read_named_agg l) _ _ more_is

-- aggregates, by what stands behind one
pub all_aggs_bad : (l : List Bytes) → read_named_agg l ≡ none → all_aggs l ≡ none
all_aggs_bad l e = on_next l ∙ ap (λ p. then_read p on_aggs) e

pub aggs_bad : (a : Given Reader) (r : Reader) → a ≡ Some r → read_named_agg (ahead r) ≡ none → aggs_left a ≡ none
aggs_bad a r i e = rw i (all_aggs_bad (ahead r) e)

aggs_read : (l l1 : List Bytes) (x : NamedAgg) → read_named_agg l ≡ parsed x l1 → all_aggs l ≡ and_then (more_aggs l1) (λ xs. some (x ∷ xs))
aggs_read l l1 x e = aggs_next l ∙ ap (λ p. then_read p (λ x l1. and_then (more_aggs l1) (λ xs. some (x ∷ xs)))) e

pub aggs_stop : (a : Given Reader) (r q : Reader) (x : NamedAgg) → a ≡ Some r → read_named_agg (ahead r) ≡ parsed x (ahead q) → more_aggs (ahead q) ≡ none → aggs_left a ≡ none
aggs_stop a r q x i e f = rw i (aggs_read (ahead r) (ahead q) x e ∙ ap (λ o. and_then o (λ xs. some (x ∷ xs))) f)

pub aggs_one : (a : Given Reader) (r q : Reader) (b : Given Reader) (x : NamedAgg) → a ≡ Some r → read_named_agg (ahead r) ≡ parsed x (ahead q) → more_aggs (ahead q) ≡ aggs_left b → length (pieces_left b) ≤ length (ahead q) → GoesOn (λ xs. x ∷ xs) (record { whole = aggs_left a; pieces = pieces_left a }) (record { whole = aggs_left b; pieces = pieces_left b })
aggs_one a r q b x i e f h =
    let k : length (ahead q) < length (ahead r) = subst (Shorter (length (ahead r))) e (named_agg_shorter (ahead r)) in
    record {
      is = rw i (aggs_read (ahead r) (ahead q) x e ∙ ap (λ o. and_then o (λ xs. some (x ∷ xs))) f);
      fewer = rw i (omega arith);
    }

-- what stands behind an aggregate
pub more_comma : (l l1 : List Bytes) → true ≡ same_bytes (head_piece l) (codes ",") → l1 ≡ tail_pieces l → more_aggs l ≡ all_aggs l1
more_comma l l1 e f = ap (λ b. cond b (all_aggs (tail_pieces l)) (at_end [] l)) (sym e) ∙ ap all_aggs (sym f)

pub more_over : (l : List Bytes) → true ≡ none_left l → more_aggs l ≡ some []
more_over [] e = refl
more_over (x ∷ l) e = absurd (clash (sym e))

pub more_none : (l : List Bytes) → false ≡ same_bytes (head_piece l) (codes ",") → false ≡ none_left l → more_aggs l ≡ none
more_none [] e f = absurd (clash f)
more_none (x ∷ l) e f = ap (λ b. cond b (all_aggs l) none) (sym e)

pub after_fewer : (l l1 : List Bytes) → l1 ≡ tail_pieces l → length l1 ≤ length l
after_fewer l l1 e = rw e (after_at_most l)

pub keys_behind : (l : List Bytes) (k : GroupKeys) → Kept key_over key_more (record { whole = keys_to_colon l; pieces = l }) (group_keys_left k) → group_line l ≡ then_read (keys_to_colon l) (λ ks l1. and_then (all_aggs (ahead k.reader)) (λ aggs. some (s_group ks aggs)))
keys_behind l k h = by (keys_to_colon l) (h (λ p. p.rest) (λ v w. refl))
  where
    by : (o : Option (Parsed (List Bytes))) → and_then o (λ p. some p.rest) ≡ some (ahead k.reader) → then_read o (λ ks l1. and_then (all_aggs l1) (λ aggs. some (s_group ks aggs))) ≡ then_read o (λ ks l1. and_then (all_aggs (ahead k.reader)) (λ aggs. some (s_group ks aggs)))
    by none e = refl
    by (some p) e = let q : p.rest ≡ ahead k.reader = cc in ap (λ l1. and_then (all_aggs l1) (λ aggs. some (s_group p.value_read aggs))) q
