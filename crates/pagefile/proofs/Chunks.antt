-- The words of a file, one to a chunk of eight bytes.
use Rattle.std.proofs.Common.{◌≡◌, ℕ, zero, suc, ◌+◌, ◌*◌, ◌/◌, ◌%◌, ◌<◌, List, length, map, take, drop, get_or, w64, refl, ap, ◌∙◌, arith, lit<}
use Rattle.std.proofs.lemmas.List.{get_or-take, get_or-drop}
use Rattle.std.specs.Int.{from_le_bytes}
use Rattle.std.specs.Simd.{first_chunks}
use Rattle.pagefile.specs.Words.{Words, word_from}

first_word : (bytes : List ℕ) → from_le_bytes w64 (take 8 bytes) ≡ word_from bytes 0
first_word bytes = rw (get_or-take 8 bytes 0 0 (lit< tt), get_or-take 8 bytes 1 0 (lit< tt), get_or-take 8 bytes 2 0 (lit< tt), get_or-take 8 bytes 3 0 (lit< tt), get_or-take 8 bytes 4 0 (lit< tt), get_or-take 8 bytes 5 0 (lit< tt), get_or-take 8 bytes 6 0 (lit< tt), get_or-take 8 bytes 7 0 (lit< tt)) refl

-- a word of what is behind the first chunk
next_word : (bytes : List ℕ) (k : ℕ) → word_from (drop 8 bytes) (8 * k) ≡ word_from bytes (8 * suc k)
next_word bytes k =
    let start : 8 + 8 * k ≡ 8 * suc k = omega arith in
    let byte : (i r : ℕ) → 8 + i ≡ r → get_or (drop 8 bytes) i 0 ≡ get_or bytes r 0 = (λ i r e. get_or-drop 8 bytes i 0 ∙ ap (λ j. get_or bytes j 0) e) in
    rw (
      byte (8 * k) (8 * suc k) start,
      byte (8 * k + 1) (8 * suc k + 1) (omega arith),
      byte (8 * k + 2) (8 * suc k + 2) (omega arith),
      byte (8 * k + 3) (8 * suc k + 3) (omega arith),
      byte (8 * k + 4) (8 * suc k + 4) (omega arith),
      byte (8 * k + 5) (8 * suc k + 5) (omega arith),
      byte (8 * k + 6) (8 * suc k + 6) (omega arith),
      byte (8 * k + 7) (8 * suc k + 7) (omega arith),
    ) refl

chunks_length : (n : ℕ) (bytes : List ℕ) → length (map (from_le_bytes w64) (first_chunks 8 n bytes)) ≡ n
chunks_length zero bytes = refl
chunks_length (suc n) bytes = ap suc (chunks_length n (drop 8 bytes))

chunk_word : (n : ℕ) (bytes : List ℕ) (k : ℕ) → k < n → get_or (map (from_le_bytes w64) (first_chunks 8 n bytes)) k 0 ≡ word_from bytes (8 * k)
chunk_word zero bytes k h = absurd (omega arith)
chunk_word (suc n) bytes zero h = first_word bytes
chunk_word (suc n) bytes (suc k) h = chunk_word n (drop 8 bytes) k (omega arith) ∙ next_word bytes k

pub words_whole : (bytes words : List ℕ) → length bytes % 4096 ≡ 0 → words ≡ map (from_le_bytes w64) (first_chunks 8 (length bytes / 8) bytes) → Words bytes words
words_whole bytes words h e =
    let n : length words ≡ length bytes / 8 = ap length e ∙ chunks_length (length bytes / 8) bytes in
    record {
      whole = h;
      count = omega arith;
      each = λ k l. ap (λ ws. get_or ws k 0) e ∙ chunk_word (length bytes / 8) bytes k (omega arith);
    }
