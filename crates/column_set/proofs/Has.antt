-- Bits of numbers.
use Rattle.std.proofs.Common.{◌≡◌, ℕ, zero, suc, ◌+◌, ◌-◌, ◌/◌, ◌%◌, ◌^◌, ◌<◌, ◌≤◌, max, Bool, true, false, cond, not, ◌&&◌, ◌||◌, eqb, ltb, ◌≢◌, ◌⊎◌, sym, refl, ap, ◌∙◌, subst, ap₂, inl, inr, ⊎_elim, lt_of_lt_of_le, mod-lt, mod-eq_of_lt, zero-lt-suc, pow-suc, one-add, arith, pow_pos, pow_mono}
use native.Mathlib.Nat.{div-eq_of_lt}
use lib.Bits.{bit_or, bit_xor, or_step, xor_step, differ}
use lib.Count.{ones, ones_cat, count_trailing_zeros, under}
use Rattle.std.proofs.Math.Bool.{or_comm}
use Rattle.std.proofs.lemmas.Bool.{true≢false}
use Rattle.std.proofs.lemmas.Nat.{pow_below, shr-shr, or_shr, xor_shr, mod-pow-add}
use Rattle.std.proofs.lemmas.Bool.Decides.{nat_tests, leb_tells}
use Rattle.column_set.specs.Membership.{has, count_before}

pub has_is : (n i : ℕ) → has n i ≡ eqb (n / 2 ^ i % 2) 1
unfolding has
has_is n i = refl

has_0 : (n : ℕ) → has n 0 ≡ eqb (n % 2) 1
unfolding has
has_0 n = let e : n / 1 ≡ n = omega arith in ap (λ x. eqb (x % 2) 1) e

has_suc : (n i : ℕ) → has n (suc i) ≡ has (n / 2) i
unfolding has
has_suc n i = ap (λ x. eqb (x % 2) 1) (ap (λ j. n / 2 ^ j) (sym (one-add i)) ∙ sym (shr-shr n 1 i))

pub has_none : (k : ℕ) → has 0 k ≡ false
has_none zero = has_0 0
has_none (suc k) = has_suc 0 k ∙ has_none k

or_digit : (x y : ℕ) → eqb (bit_or x y % 2) 1 ≡ (eqb (x % 2) 1 || eqb (y % 2) 1)
or_digit x y = let s = or_step x y in let a : bit_or x y % 2 ≡ max (x % 2) (y % 2) = omega arith in ap (λ z. eqb z 1) a ∙ grind (arith, nat_tests)

pub has_or : (a b k : ℕ) → has (bit_or a b) k ≡ (has a k || has b k)
unfolding has
has_or a b k = ap (λ x. eqb (x % 2) 1) (or_shr a b k) ∙ or_digit (a / 2 ^ k) (b / 2 ^ k)

abbrev pub other : Bool → Bool → Bool
other true b = not b
other false b = b

digits : (x y : ℕ) → x < 2 → y < 2 → (differ x y < 2) × (eqb (differ x y) 1 ≡ other (eqb x 1) (eqb y 1))
digits zero y p q = (q, refl)
digits (suc zero) zero p q = (omega arith, refl)
digits (suc zero) (suc zero) p q = (omega arith, refl)
digits (suc zero) (suc (suc y)) p q = absurd (omega arith)
digits (suc (suc x)) y p q = absurd (omega arith)

xor_digit : (x y : ℕ) → eqb (bit_xor x y % 2) 1 ≡ other (eqb (x % 2) 1) (eqb (y % 2) 1)
xor_digit x y = let s = xor_step x y in let d = digits (x % 2) (y % 2) (omega arith) (omega arith) in let l = d.0 in let a : bit_xor x y % 2 ≡ differ (x % 2) (y % 2) = omega arith in ap (λ z. eqb z 1) a ∙ d.1

pub has_xor : (a b k : ℕ) → has (bit_xor a b) k ≡ other (has a k) (has b k)
unfolding has
has_xor a b k = ap (λ x. eqb (x % 2) 1) (xor_shr a b k) ∙ xor_digit (a / 2 ^ k) (b / 2 ^ k)

half_pow : (i : ℕ) → 2 ^ suc i / 2 ≡ 2 ^ i
half_pow i = omega (arith, pow-suc 2 i)

pub has_pow : (i k : ℕ) → has (2 ^ i) k ≡ eqb k i
has_pow zero zero = has_0 1
has_pow zero (suc k) = has_suc 1 k ∙ (has_none k ∙ grind (arith, nat_tests))
has_pow (suc i) zero = has_0 (2 ^ suc i) ∙ (let p = pow-suc 2 i in let e : 2 ^ suc i % 2 ≡ 0 = omega arith in ap (λ x. eqb x 1) e ∙ grind (arith, nat_tests))
has_pow (suc i) (suc k) = has_suc (2 ^ suc i) k ∙ (ap (λ x. has x k) (half_pow i) ∙ (has_pow i k ∙ grind (arith, nat_tests)))

pub has_past : (n w k : ℕ) → n < 2 ^ w → w ≤ k → has n k ≡ false
unfolding has
has_past n w k h l = ap (λ x. eqb (x % 2) 1) (div-eq_of_lt (lt_of_lt_of_le h (pow_mono l)))

pub has_ones : (w k : ℕ) → has (2 ^ w - 1) k ≡ ltb k w
has_ones zero k = has_none k ∙ grind (arith, nat_tests)
has_ones (suc w) zero = has_0 (2 ^ suc w - 1) ∙ (let p = pow-suc 2 w in let q = pow_pos w in let e : (2 ^ suc w - 1) % 2 ≡ 1 = omega arith in ap (λ x. eqb x 1) e ∙ grind (arith, nat_tests))
has_ones (suc w) (suc k) = has_suc (2 ^ suc w - 1) k ∙ (let p = pow-suc 2 w in let q = pow_pos w in let e : (2 ^ suc w - 1) / 2 ≡ 2 ^ w - 1 = omega arith in ap (λ x. has x k) e ∙ (has_ones w k ∙ grind (arith, nat_tests)))

-- how many there are
one_digit : (d : ℕ) → d < 2 → ones d ≡ cond (eqb d 1) 1 0
unfolding ones
one_digit zero h = refl
one_digit (suc zero) h = refl
one_digit (suc (suc d)) h = absurd (omega arith)

pub before_ones : (n w : ℕ) → ones (n % 2 ^ w) ≡ count_before n w
before_ones n zero = let e : n % 1 ≡ 0 = omega arith in ap ones e ∙ one_digit 0 (omega arith)
before_ones n (suc w) =
    ap (λ j. ones (n % 2 ^ j)) (sym (one-add w)) ∙ (ap ones (mod-pow-add n 1 w) ∙ (ones_cat w (n / 2 ^ w % 2) (n % 2 ^ w) (mod-lt n (pow_pos w)) ∙ (ap₂ (λ a b. a + b) (one_digit (n / 2 ^ w % 2) (mod-lt (n / 2 ^ w) (zero-lt-suc 1)) ∙ ap (λ b. cond b 1 0) (sym (has_is n w))) (before_ones n w) ∙ (let z : cond (has n w) 1 0 + count_before n w ≡ count_before n w + cond (has n w) 1 0 = omega arith in z))))

pub before_all : (n w : ℕ) → n < 2 ^ w → ones n ≡ count_before n w
before_all n w h = ap ones (sym (mod-eq_of_lt h)) ∙ before_ones n w

-- the first
pub trailing_first : (k n : ℕ) → n < 2 ^ k → n ≢ 0 → (has n (count_trailing_zeros k n) ≡ true) × ((j : ℕ) → j < count_trailing_zeros k n → has n j ≡ false)
unfolding count_trailing_zeros
trailing_first zero n h e = absurd (e (omega arith))
trailing_first (suc k) n h e =
    (elim (n % 2) as (λ d. n % 2 ≡ d → (has n (under d (count_trailing_zeros k (n / 2))) ≡ true) × ((j : ℕ) → j < under d (count_trailing_zeros k (n / 2)) → has n j ≡ false)) [
      | zero ↦ λ m. let p = pow-suc 2 k in let l : n / 2 < 2 ^ k = omega arith in let z : n / 2 ≢ 0 = (λ q. e (omega arith)) in let r = trailing_first k (n / 2) l z in
          (has_suc n (count_trailing_zeros k (n / 2)) ∙ r.0, below n (count_trailing_zeros k (n / 2)) m r.1)
      | suc d ↦ λ m. (has_0 n ∙ (let o : n % 2 ≡ 1 = omega arith in ap (λ x. eqb x 1) o), λ j l. absurd (omega arith))
    ]) refl
  where
    below : (n t : ℕ) → n % 2 ≡ 0 → ((j : ℕ) → j < t → has (n / 2) j ≡ false) → (j : ℕ) → j < suc t → has n j ≡ false
    below n t m r zero l = has_0 n ∙ ap (λ x. eqb x 1) m
    below n t m r (suc j) l = has_suc n j ∙ r j (omega arith)

-- what the operations do
pub inserted : (b i r : ℕ) → r ≡ 2 ^ i → (k : ℕ) → has (bit_or b r) k ≡ (eqb k i || has b k)
inserted b i r e k = ap (λ x. has (bit_or b x) k) e ∙ (has_or b (2 ^ i) k ∙ (ap (λ z. has b k || z) (has_pow i k) ∙ or_comm (has b k) (eqb k i)))

pub removed : (b i r : ℕ) → r ≡ 2 ^ i → has b i ≡ true → (k : ℕ) → has (bit_xor b r) k ≡ (has b k && not (eqb k i))
removed b i r e h k = ap (λ x. has (bit_xor b x) k) e ∙ (has_xor b (2 ^ i) k ∙ (ap (other (has b k)) (has_pow i k) ∙ cases (has b k) (eqb k i) (λ q. let same : k ≡ i = grind (arith, nat_tests) in ap (has b) same ∙ h)))
  where
    cases : (x y : Bool) → (y ≡ true → x ≡ true) → other x y ≡ (x && not y)
    cases true true g = refl
    cases true false g = refl
    cases false true g = sym (g refl)
    cases false false g = refl

pub removed_none : (b i : ℕ) → has b i ≡ false → (k : ℕ) → has b k ≡ (has b k && not (eqb k i))
removed_none b i h k = cases (has b k) (eqb k i) (λ q. let same : k ≡ i = grind (arith, nat_tests) in ap (has b) same ∙ h)
  where
    cases : (x y : Bool) → (y ≡ true → x ≡ false) → x ≡ (x && not y)
    cases true true g = g refl
    cases true false g = refl
    cases false true g = refl
    cases false false g = refl

pub first_within : (n w i : ℕ) → n < 2 ^ w → has n i ≡ true → i < w
first_within n w i h e = ⊎_elim (λ l. l) (λ l. absurd (true≢false (sym e ∙ has_past n w i h l))) (split i w)
  where
    split : (i w : ℕ) → (i < w) ⊎ (w ≤ i)
    split i w = ⊎_elim (λ p. inl p.1) (λ p. inr (omega arith)) (leb_tells (suc i) w)

pub bit_within : (i w r : ℕ) → r ≡ 2 ^ i → i < w → r < 2 ^ w
bit_within i w r e h = subst (λ x. x < 2 ^ w) (sym e) (pow_below i w h)
