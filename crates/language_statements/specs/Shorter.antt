-- What is left behind a reading has fewer pieces.
use Rattle.std.specs.Prelude.{ℕ, suc, ◌<◌, ◌≤◌, Bool, true, false, cond, List, [], ◌∷◌, length, codes}
use Rattle.std.proofs.Common.{arith}
use Rattle.std.proofs.Math.Option.{Option, some, none}
use Rattle.meaning.specs.Base.{and_then, Bytes, same_bytes}
use Rattle.meaning.specs.Text.{Parsed, parsed, then_read, expect, read_name, read_number, read_type, is_name, as_number}
use Rattle.language_statements.specs.Items.{Shorter, Shortens, agg_by, function_named, read_key, read_aggregate, read_named_agg, read_column}
use Rattle.language_statements.specs.declared.views.Function.{Function}

cond_shorter : {A : Type 0} (n : ℕ) (b : Bool) (r s : Option (Parsed A)) → Shorter n r → Shorter n s → Shorter n (cond b r s)
cond_shorter n true r s h k = h
cond_shorter n false r s h k = k

-- one reading behind another
then_shorter : {A C : Type 0} (r : Option (Parsed A)) (go : A → List Bytes → Option (Parsed C)) (m n : ℕ) → Shorter m r → ((a : A) (l : List Bytes) → length l < m → Shorter n (go a l)) → Shorter n (then_read r go)
then_shorter none go m n h k = tt
then_shorter (some p) go m n h k = k p.value_read p.rest h

weaker : {A : Type 0} (r : Option (Parsed A)) (m n : ℕ) → Shorter m r → m ≤ n → Shorter n r
weaker none m n h k = tt
weaker (some p) m n h k = omega arith

pub name_shorter : Shortens read_name
name_shorter [] = tt
name_shorter (x ∷ l) = cond_shorter _ (is_name x) _ _ (omega arith) tt

pub number_shorter : Shortens read_number
number_shorter [] = tt
number_shorter (x ∷ l) = elim (as_number x) as (λ o. Shorter (suc (length l)) (and_then o (λ n. parsed n l))) [ none ↦ tt | some n ↦ omega arith ]

pub type_shorter : Shortens read_type
type_shorter [] = tt
type_shorter (x ∷ l) = cond_shorter _ (same_bytes x (codes "num")) _ _ (omega arith) (cond_shorter _ (same_bytes x (codes "word")) _ _ (omega arith) tt)

pub key_shorter : Shortens read_key
key_shorter [] = tt
key_shorter (x ∷ l) =
    cond_shorter _ (same_bytes x (codes "-")) _ _
    (then_shorter (read_name l) _ (length l) (suc (length l)) (name_shorter l) (λ y l1 h. omega arith))
    (then_shorter (read_name (x ∷ l)) _ (suc (length l)) (suc (length l)) (name_shorter (x ∷ l)) (λ y l1 h. omega arith))

pub aggregate_shorter : Shortens read_aggregate
unfolding read_aggregate
aggregate_shorter [] = tt
aggregate_shorter (x ∷ l) = cond_shorter _ (same_bytes x (codes "count")) _ _ (omega arith) (by (function_named x))
  where
    by : (o : Option Function) → Shorter (suc (length l)) (and_then o (λ f. then_read (read_name l) (λ y l1. parsed (agg_by f y) l1)))
    by none = tt
    by (some f) = then_shorter (read_name l) _ (length l) (suc (length l)) (name_shorter l) (λ y l1 h. omega arith)

equals_shorter : {A : Type 0} (w : Bytes) (go : List Bytes → Option (Parsed A)) (l : List Bytes) → ((m : List Bytes) → length m < length l → Shorter (length l) (go m)) → Shorter (length l) (expect w l go)
equals_shorter w go [] k = tt
equals_shorter w go (x ∷ l) k = cond_shorter _ (same_bytes w x) (go l) none (k l (omega arith)) tt

pub named_agg_shorter : Shortens read_named_agg
named_agg_shorter l =
    then_shorter (read_name l) _ (length l) (length l) (name_shorter l) (λ n l1 h.
    weaker (expect (codes "=") l1 _) (length l1) (length l) (equals_shorter (codes "=") _ l1 (λ l2 k.
    then_shorter (read_aggregate l2) _ (length l2) (length l1) (aggregate_shorter l2) (λ a l3 j. omega arith))) (omega arith))

pub column_shorter : Shortens read_column
column_shorter l =
    then_shorter (read_name l) _ (length l) (length l) (name_shorter l) (λ n l1 h.
    then_shorter (read_type l1) _ (length l1) (length l) (type_shorter l1) (λ t l2 k.
    then_shorter (read_number l2) _ (length l2) (length l) (number_shorter l2) (λ p l3 j. omega arith)))
