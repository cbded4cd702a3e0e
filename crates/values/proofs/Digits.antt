-- At most seven bytes, behind a zero and filled up with zeros to eight, as a number: that of their word.
use Rattle.std.proofs.Common.{◌≡◌, ℕ, ◌<◌, ◌≤◌, List, [], ◌∷◌, ◌++◌, length, drop, slice_index, Fits, w8, w64, arith}
use Rattle.std.specs.Int.{from_be_bytes}
use Rattle.meaning.specs.Values.{word_number, word_limit}

abbrev pub digits : List ℕ → ℕ → List ℕ
digits bytes n = 0 ∷ bytes ++ drop n (0 ∷ 0 ∷ 0 ∷ 0 ∷ 0 ∷ 0 ∷ 0 ∷ [])

abbrev pub IsWord : ℕ → List ℕ → Type 0
IsWord m bytes = (m ≡ word_number bytes) × (m < word_limit)

is_word : (bytes : List ℕ) → length bytes ≤ 7 → ((i : ℕ) → Fits w8 (slice_index bytes i)) → IsWord (from_be_bytes w64 (digits bytes (length bytes))) bytes
is_word [] h b = (omega arith, omega arith)
is_word (x ∷ []) h b = (omega arith, omega (arith, b 0))
is_word (x ∷ y ∷ []) h b = (omega arith, omega (arith, b 0, b 1))
is_word (x ∷ y ∷ z ∷ []) h b = (omega arith, omega (arith, b 0, b 1, b 2))
is_word (x ∷ y ∷ z ∷ u ∷ []) h b = (omega arith, omega (arith, b 0, b 1, b 2, b 3))
is_word (x ∷ y ∷ z ∷ u ∷ v ∷ []) h b = (omega arith, omega (arith, b 0, b 1, b 2, b 3, b 4))
is_word (x ∷ y ∷ z ∷ u ∷ v ∷ w ∷ []) h b = (omega arith, omega (arith, b 0, b 1, b 2, b 3, b 4, b 5))
is_word (x ∷ y ∷ z ∷ u ∷ v ∷ w ∷ t ∷ []) h b = (omega arith, omega (arith, b 0, b 1, b 2, b 3, b 4, b 5, b 6))
is_word (x ∷ y ∷ z ∷ u ∷ v ∷ w ∷ t ∷ s ∷ rest) h b = (omega arith, omega arith)

pub digits_are_word : {m n : ℕ} {copied bytes : List ℕ} → length bytes ≤ 7 → ((i : ℕ) → Fits w8 (slice_index bytes i)) → copied ≡ bytes → n ≡ length bytes → m ≡ from_be_bytes w64 (digits copied n) → IsWord m bytes
digits_are_word {m} {n} {copied} {bytes} h b is at e = rw (e, is, at) (is_word bytes h b)
