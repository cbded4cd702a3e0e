-- Sets of columns and tables that have only these.
use Rattle.std.proofs.Common.{◌≡◌, ℕ, zero, suc, ◌+◌, ◌^◌, ◌<◌, ◌≤◌, Bool, true, false, cond, not, ◌&&◌, ◌||◌, eqb, List, [], ◌∷◌, ◌++◌, length, take, set, sym, refl, ap, ◌∙◌, ap₂, ⊎_elim, append_assoc, length-append, add-one, arith, take-suc-set}
use mathlib.Core.Option.{some}
use Rattle.std.specs.Prelude.{Some, None, Option as Given}
use Rattle.std.specs.Iterator.{YieldsFirst, item_count, MakesProgress}
use Rattle.std.specs.List.{list_any}
use Rattle.std.proofs.Math.Bool.{and-true, and-false, or-false}
use Rattle.std.proofs.lemmas.Bool.{eq-eqb, ne_eqb, cases_eq, true≢false}
use Rattle.std.proofs.lemmas.Bool.Decides.{leb_tells}
use Rattle.std.proofs.lemmas.List.Folds.{list_any-append}
use lib.Bits.{bit_xor, xor_lt}
use Rattle.meaning.specs.Base.{nth, filter, Bytes, among}
use Rattle.meaning.specs.Values.{Col}
use Rattle.projection.specs.Projected.{project_cols}
use Rattle.column_set.specs.Membership.{has, count_before, columns_before, First, Taken, Marks}
use Rattle.column_set.proofs.Has.{has_past, first_within, bit_within, removed, trailing_first}

there : {A : Type 0} (xs : List A) (i : ℕ) → i < length xs → (x : A) × (nth xs i ≡ some x)
there [] i h = absurd (omega arith)
there (x ∷ xs) zero h = (x, refl)
there (x ∷ xs) (suc i) h = there xs i (omega arith)

one_more : {A : Type 0} (p : A → Bool) (xs : List A) (i : ℕ) (x : A) → nth xs i ≡ some x → length (filter p (take (suc i) xs)) ≡ length (filter p (take i xs)) + cond (p x) 1 0
one_more p [] i x e = absurd (let z : ◌≡◌ {A = ℕ} 0 1 = cc in omega arith)
one_more p (y ∷ ys) zero x e = let s : y ≡ x = cc in ap (λ b. length (cond b (y ∷ []) [])) (ap p s) ∙ (elim (p x) as (λ b. length (cond b (y ∷ []) []) ≡ 0 + cond b 1 0) [ true ↦ refl | false ↦ refl ])
one_more p (y ∷ ys) (suc i) x e =
    let h = one_more p ys i x e in
    elim (p y) as (λ b. length (cond b (y ∷ filter p (take (suc i) ys)) (filter p (take (suc i) ys))) ≡ length (cond b (y ∷ filter p (take i ys)) (filter p (take i ys))) + cond (p x) 1 0) [ true ↦ omega arith | false ↦ h ]

pub before_projected : (bits : ℕ) (us : List Bytes) (cs : List Col) → Marks bits us cs → (i : ℕ) → i ≤ length cs → count_before bits i ≡ length (project_cols us (take i cs))
before_projected bits us cs m zero h = refl
before_projected bits us cs m (suc i) h =
    let t = there cs i (omega arith) in
    ap₂ (λ a b. a + cond b 1 0) (before_projected bits us cs m i (omega arith)) (m i t.0 t.1) ∙ sym (one_more (λ c. among c.name us) cs i t.0 t.1)

pub before_most : (b w : ℕ) → count_before b w ≤ w
before_most b zero = omega arith
before_most b (suc w) = let h = before_most b w in elim (has b w) as (λ z. count_before b w + cond z 1 0 ≤ suc w) [ true ↦ omega arith | false ↦ omega arith ]

-- columns in order
none_before : (b w : ℕ) → ((k : ℕ) → k < w → has b k ≡ false) → columns_before b w ≡ []
none_before b zero h = refl
none_before b (suc w) h = ap₂ (λ l z. l ++ cond z (w ∷ []) []) (none_before b w (λ k l. h k (omega arith))) (h w (omega arith))

first_listed : (b i c w : ℕ) → First b i c → i < w → columns_before b w ≡ i ∷ columns_before c w
first_listed b i c zero f h = absurd (omega arith)
first_listed b i c (suc w) f h =
    ⊎_elim
    (λ e. let x : has b w ≡ true = ap (has b) e ∙ f.is_in in
    let y : has c w ≡ false = f.others w ∙ (ap (λ z. has b w && not z) (eq-eqb w i e) ∙ ap (λ z. z && false) x) in
    let p : columns_before b w ≡ [] = none_before b w (λ k l. f.least k (omega arith)) in
    let q : columns_before c w ≡ [] = none_before c w (λ k l. f.others k ∙ ap (λ z. z && not (eqb k i)) (f.least k (omega arith))) in
    ap₂ (λ l z. l ++ cond z (w ∷ []) []) p x ∙ (ap (λ j. j ∷ []) e ∙ sym (ap₂ (λ l z. i ∷ (l ++ cond z (w ∷ []) [])) q y)))
    (λ e. let y : has b w ≡ has c w = sym (f.others w ∙ (ap (λ z. has b w && not z) (ne_eqb w i e) ∙ and-true (has b w))) in
    ap₂ (λ l z. l ++ cond z (w ∷ []) []) (first_listed b i c w f (omega arith)) y)
    (cases_eq w i)

-- a call of the iterator gives the first column that is left
pub yields : (b w : ℕ) (r : Given ℕ) (c v : ℕ) → b < 2 ^ w → Taken b r c → v ≡ w → YieldsFirst (λ s. s) (columns_before b w) r (columns_before c v)
yields b w None c v l t e = (none_before b w (λ k q. t.0 k), none_before c v (λ k q. ap (λ x. has x k) t.1 ∙ t.0 k))
yields b w (Some i) c v l f e = first_listed b i c w f (first_within b w i l f.is_in) ∙ ap (λ x. i ∷ columns_before c x) (sym e)

-- the list has the columns of the set, and no others
one_listed : (z : Bool) (k w : ℕ) → list_any (eqb k) (cond z (w ∷ []) []) ≡ (z && eqb k w)
one_listed true k w = or-false (eqb k w)
one_listed false k w = refl

none_past : (b w k : ℕ) → w ≤ k → list_any (eqb k) (columns_before b w) ≡ false
none_past b zero k h = refl
none_past b (suc w) k h = list_any-append (eqb k) (columns_before b w) _ ∙ ap₂ (λ x y. x || y) (none_past b w k (omega arith)) (one_listed (has b w) k w ∙ (ap (λ z. has b w && z) (ne_eqb k w (λ e. absurd (omega arith))) ∙ and-false (has b w)))

listed_within : (b w k : ℕ) → k < w → list_any (eqb k) (columns_before b w) ≡ has b k
listed_within b zero k h = absurd (omega arith)
listed_within b (suc w) k h =
    list_any-append (eqb k) (columns_before b w) _
    ∙ ⊎_elim
    (λ e. ap₂ (λ x y. x || y) (none_past b w k (omega arith)) (one_listed (has b w) k w ∙ (ap (λ z. has b w && z) (eq-eqb k w e) ∙ and-true (has b w))) ∙ ap (has b) (sym e))
    (λ e. ap₂ (λ x y. x || y) (listed_within b w k (omega arith)) (one_listed (has b w) k w ∙ (ap (λ z. has b w && z) (ne_eqb k w e) ∙ and-false (has b w))) ∙ or-false (has b k))
    (cases_eq k w)

pub listed : (b w k : ℕ) → b < 2 ^ w → list_any (eqb k) (columns_before b w) ≡ has b k
listed b w k h = ⊎_elim (λ p. listed_within b w k p.1) (λ p. let l : w ≤ k = omega arith in none_past b w k l ∙ sym (has_past b w k h l)) (leb_tells (suc k) w)

-- its first item is the first column
pub first_of : (b w i : ℕ) (l : List ℕ) → columns_before b w ≡ i ∷ l → (i < w) × ((k : ℕ) → k < i → has b k ≡ false)
first_of b zero i l e = let z = ap length e in absurd (omega arith)
first_of b (suc w) i l e =
    (elim (columns_before b w) as (λ xs. columns_before b w ≡ xs → xs ++ cond (has b w) (w ∷ []) [] ≡ i ∷ l → (i < suc w) × ((k : ℕ) → k < i → has b k ≡ false)) [
      | [] ↦ λ p q. only (has b w) q p
      | x ∷ xs ↦ λ p q. let s : x ≡ i = cc in let r = first_of b w x xs p in let m = r.0 in (omega arith, λ k h. r.1 k (omega arith))
    ]) refl e
  where
    only : (z : Bool) → cond z (w ∷ []) [] ≡ i ∷ l → columns_before b w ≡ [] → (i < suc w) × ((k : ℕ) → k < i → has b k ≡ false)
    only true q p = let s : w ≡ i = cc in (omega arith, λ k h. sym (listed_within b w k (omega arith)) ∙ ap (list_any (eqb k)) p)
    only false q p = let z = ap length q in absurd (omega arith)

empty_zero : (n w : ℕ) → n < 2 ^ w → ((k : ℕ) → has n k ≡ false) → n ≡ 0
empty_zero n w h e = ⊎_elim (λ z. z) (λ z. absurd (true≢false (sym (trailing_first w n h z).0 ∙ e _))) (cases_eq n 0)

empty_list : (n w : ℕ) → n < 2 ^ w → columns_before n w ≡ [] → (k : ℕ) → has n k ≡ false
empty_list n w h e k = sym (listed n w k h) ∙ ap (list_any (eqb k)) e

-- what comes of the list comes of the set: the first column is taken out, and the others are left
pub yielded : (b w : ℕ) (r : Given ℕ) (c v : ℕ) → b < 2 ^ w → c < 2 ^ v → YieldsFirst (λ s. s) (columns_before b w) r (columns_before c v) → Taken b r c
yielded b w None c v h g y = (empty_list b w h y.0, empty_zero c v g (empty_list c v g y.1) ∙ sym (empty_zero b w h (empty_list b w h y.0)))
yielded b w (Some i) c v h g y =
    let f = first_of b w i (columns_before c v) y in
    let p : has b i ≡ true = sym (listed b w i h) ∙ (ap (list_any (eqb i)) y ∙ ap (λ z. z || list_any (eqb i) (columns_before c v)) (eq-eqb i i refl)) in
    let d = bit_xor b (2 ^ i) in
    let r = removed b i (2 ^ i) refl p in
    let q : columns_before b w ≡ i ∷ columns_before d w = first_listed b i d w (record { is_in = p; least = f.1; others = r }) f.0 in
    let s : columns_before c v ≡ columns_before d w = cc in
    let l : d < 2 ^ w = xor_lt w b (2 ^ i) h (bit_within i w (2 ^ i) refl f.0) in
    record { is_in = p; least = f.1; others = λ k. sym (listed c v k g) ∙ (ap (list_any (eqb k)) s ∙ (listed d w k l ∙ r k)) }

pub progress : (s : List ℕ) (r : Given ℕ) (t : List ℕ) → YieldsFirst (λ l. l) s r t → MakesProgress (λ l. Unit {0}) (item_count (λ l. l)) s r t
progress s None t h = record { on = λ f. tt; keeps = tt; rests = λ f. tt }
progress s (Some i) t h = record { on = λ f. (tt, tt, omega (arith, ap length h)); keeps = tt; rests = λ f. tt }

-- columns written, one after the other
pub columns_counted : (b w : ℕ) → length (columns_before b w) ≡ count_before b w
columns_counted b zero = refl
columns_counted b (suc w) = length-append (columns_before b w) (cond (has b w) (w ∷ []) []) ∙ ap₂ ◌+◌ (columns_counted b w) (elim (has b w) as (λ z. length (cond z (w ∷ []) []) ≡ cond z 1 0) [ true ↦ refl | false ↦ refl ])

pub columns_few : (b w : ℕ) → length (columns_before b w) ≤ w
columns_few b w = let e = columns_counted b w in let m = before_most b w in omega arith

pub one_written : (n x : ℕ) (ws rest : List ℕ) → n < length ws → take (n + 1) (set ws n x) ++ rest ≡ take n ws ++ (x ∷ rest)
one_written n x ws rest l = ap (λ k. take k (set ws n x) ++ rest) (add-one n) ∙ (ap (λ xs. xs ++ rest) (take-suc-set ws n x l) ∙ append_assoc (take n ws) (x ∷ []) rest)
