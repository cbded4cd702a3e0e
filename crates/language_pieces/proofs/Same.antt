-- Bytes that are the same.
use Rattle.std.proofs.Common.{◌≡◌, ◌≢◌, ℕ, suc, length, get_or, ne_eqb, codes, true, false, ◌&&◌, eqb, List, [], ◌∷◌, refl, ap, arith, rules, Decides}
use Rattle.std.specs.List.{list_any}
use lib.Pointwise.{pointwise}
use Rattle.std.proofs.lemmas.Slice.Eq.{compares_Decides, text_from_reads}
use Rattle.meaning.specs.Base.{Bytes, same_bytes, among}

pub same_decides : (a b : Bytes) → Decides (same_bytes a b) (a ≡ b)
same_decides a b = compares_Decides same_bytes (search rules) a b

pub pointwise_same : (a b : Bytes) → pointwise eqb a b ≡ same_bytes a b
pointwise_same [] [] = refl
pointwise_same [] (y ∷ ys) = refl
pointwise_same (x ∷ xs) [] = refl
pointwise_same (x ∷ xs) (y ∷ ys) = ap (λ t. eqb x y && t) (pointwise_same xs ys)

pub same_turned : (a b : Bytes) → same_bytes a b ≡ same_bytes b a
same_turned [] [] = refl
same_turned [] (y ∷ ys) = refl
same_turned (x ∷ xs) [] = refl
same_turned (x ∷ xs) (y ∷ ys) = grind (arith, same_turned xs ys)

-- a word in a table of words
pub in_table : (word : Bytes) (table : List Bytes) → list_any (λ entry. pointwise eqb entry word) table ≡ among word table
in_table word [] = refl
in_table word (entry ∷ table) = rw (pointwise_same entry word, same_turned entry word, in_table word table)

-- bytes of different lengths
pub same_length : (a b : Bytes) → length a ≢ length b → same_bytes a b ≡ false
same_length [] [] n = absurd (n refl)
same_length [] (y ∷ ys) n = refl
same_length (x ∷ xs) [] n = refl
same_length (x ∷ xs) (y ∷ ys) n = grind (arith, same_length xs ys (λ e. n (ap suc e)))

-- bytes that begin otherwise
pub same_first : (a : Bytes) (y : ℕ) (ys : Bytes) → get_or a 0 0 ≢ y → same_bytes a (y ∷ ys) ≡ false
same_first [] y ys n = refl
same_first (x ∷ xs) y ys n = rw (ne_eqb x y n) refl

-- bytes with another second, third or fourth
pub same_second : (a : Bytes) (x y : ℕ) (w : Bytes) → get_or a 1 0 ≢ y → same_bytes a (x ∷ y ∷ w) ≡ false
same_second [] x y w n = refl
same_second (a ∷ []) x y w n = grind arith
same_second (a ∷ b ∷ p) x y w n = let e = ne_eqb b y n in grind (arith, e)

pub same_fourth : (a : Bytes) (x y z v : ℕ) (w : Bytes) → get_or a 3 0 ≢ v → same_bytes a (x ∷ y ∷ z ∷ v ∷ w) ≡ false
same_fourth [] x y z v w n = refl
same_fourth (a ∷ []) x y z v w n = grind arith
same_fourth (a ∷ b ∷ []) x y z v w n = grind arith
same_fourth (a ∷ b ∷ c ∷ []) x y z v w n = grind arith
same_fourth (a ∷ b ∷ c ∷ d ∷ p) x y z v w n = let e = ne_eqb d v n in grind (arith, e)

pub same_third : (a : Bytes) (x y z : ℕ) (w : Bytes) → get_or a 2 0 ≢ z → same_bytes a (x ∷ y ∷ z ∷ w) ≡ false
same_third [] x y z w n = refl
same_third (a ∷ []) x y z w n = grind arith
same_third (a ∷ b ∷ []) x y z w n = grind arith
same_third (a ∷ b ∷ c ∷ p) x y z w n = let e = ne_eqb c z n in grind (arith, e)

-- the longest word, byte by byte
pub is_distinct : (a : Bytes) → length a ≡ 8 → get_or a 0 0 ≡ 100 → get_or a 1 0 ≡ 105 → get_or a 2 0 ≡ 115 → get_or a 3 0 ≡ 116 → get_or a 4 0 ≡ 105 → get_or a 5 0 ≡ 110 → get_or a 6 0 ≡ 99 → get_or a 7 0 ≡ 116 → same_bytes a (codes "distinct") ≡ true
is_distinct p n a b c d e f g h = ap (λ q. same_bytes q (codes "distinct")) (text_from_reads p (codes "distinct") n (a, (b, (c, (d, (e, (f, (g, (h, tt)))))))))
