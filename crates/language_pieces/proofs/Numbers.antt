-- Digits.
use Rattle.std.proofs.Common.{◌≡◌, ℕ, ◌+◌, ◌-◌, ◌*◌, ◌<◌, ◌≤◌, true, ltb, [], ◌∷◌, length, get_or, drop, ap, ◌∙◌, arith, le-ltb}
use Rattle.std.proofs.Math.Option.{Option, some, none}
use Rattle.std.proofs.lemmas.List.{drop_more}
use Rattle.meaning.specs.Base.{and_then, when, Bytes}
use Rattle.meaning.specs.Values.{num_limit}
use Rattle.meaning.specs.Text.{is_digit, digits, as_number}

-- what digits behind a number come to
abbrev pub reads_as : ℕ → Bytes → Option ℕ
reads_as n w = and_then (digits n w) (λ k. when (ltb k num_limit) (some k))

pub large : (n : ℕ) (w : Bytes) → num_limit ≤ n → reads_as n w ≡ none
large n [] h = ap (λ t. when t (some n)) (le-ltb n num_limit h)
large n (b ∷ w) h = grind (arith, large (n * 10 + (b - 48)) w)

pub number_bad : (p : Bytes) (i n : ℕ) → i < length p → (is_digit (get_or p i 0) ≡ true → num_limit ≤ n * 10 + (get_or p i 0 - 48)) → as_number p ≡ reads_as n (drop i p) → as_number p ≡ none
number_bad p i n h l q = q ∙ (ap (reads_as n) (drop_more p i 0 h) ∙ grind (arith, large (n * 10 + (get_or p i 0 - 48)) (drop (i + 1) p)))
