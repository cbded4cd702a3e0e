-- Rows as text.
use Rattle.std.specs.Prelude.{ℕ, ◌-◌, ◌/◌, ◌%◌, ◌^◌, Bool, List, [], ◌∷◌, ◌++◌, map, length, take, vec_items, codes, decimal, Vec, ◌==◌}
use Rattle.std.specs.declared.alloc.Global.{Global}
use Rattle.std.specs.List.{suffix_len, flat_map}
use Rattle.meaning.specs.Base.{Bytes}
use Rattle.meaning.specs.Values.{Value, null, num, word, Row}
use Rattle.reference_values.specs.declared.values.Value.{Value as CodeValue}
use Rattle.reference_values.specs.Values.{meant}

-- the seven bytes of a word, the first the highest digit of its number to base 256
abbrev pub word_bytes : ℕ → Bytes
word_bytes n =
    (n / 256 ^ 6 % 256) ∷ (n / 256 ^ 5 % 256) ∷ (n / 256 ^ 4 % 256) ∷ (n / 256 ^ 3 % 256) ∷ (n / 256 ^ 2 % 256)
    ∷ (n / 256 % 256) ∷ (n % 256) ∷ []

-- is a byte zero
abbrev pub is_zero : ℕ → Bool
is_zero byte = byte == 0

-- bytes without the zero bytes that they end in
abbrev pub trimmed : Bytes → Bytes
trimmed bytes = take (length bytes - suffix_len is_zero bytes) bytes

-- a value: null is nothing, a number its digits, a word its bytes between quotes
abbrev pub shown : Value → Bytes
shown null = []
shown (num n) = decimal n
shown (word n) = codes "'" ++ trimmed (word_bytes n) ++ codes "'"

-- a value behind a comma
abbrev pub behind_comma : Value → Bytes
behind_comma v = codes "," ++ shown v

-- values parted by commas
abbrev pub parted : Row → Bytes
parted [] = []
parted (v ∷ vs) = shown v ++ flat_map behind_comma vs

-- a row: a line of its own
abbrev pub line : Row → Bytes
line row = parted row ++ codes "\n"

-- rows, a line each
abbrev pub listing : List Row → Bytes
listing rows = flat_map line rows

-- the row that a row of the code stands for
abbrev pub meant_row : Vec CodeValue Global → Row
meant_row row = map meant (vec_items row)
