-- A page file: words of eight bytes, 512 words to a page.
use Rattle.std.specs.Prelude.{◌≡◌, ℕ, ◌+◌, ◌*◌, ◌%◌, ◌<◌, List, length, slice_index}

-- the word that begins at byte i, its lowest byte first
abbrev pub word_from : List ℕ → ℕ → ℕ
word_from bytes i = slice_index bytes i + slice_index bytes (i + 1) * 256 + slice_index bytes (i + 2) * 65536 + slice_index bytes (i + 3) * 16777216 + slice_index bytes (i + 4) * 4294967296 + slice_index bytes (i + 5) * 1099511627776 + slice_index bytes (i + 6) * 281474976710656 + slice_index bytes (i + 7) * 72057594037927936

-- these are the words of a file, whole pages of them
pub record Words (bytes words : List ℕ) : Type 0 where
  pub whole : length bytes % 4096 ≡ 0
  pub count : length bytes ≡ 8 * length words
  pub each : (k : ℕ) → k < length words → slice_index words k ≡ word_from bytes (8 * k)

-- the file has a part of a page at its end
abbrev pub Broken : List ℕ → Type 0
Broken bytes = length bytes % 4096 ≡ 0 → ⊥
