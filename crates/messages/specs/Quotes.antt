-- Parts of a text between quotes.
use Rattle.std.specs.Prelude.{ℕ, ◌+◌, ◌/◌, ◌%◌, Bool, cond, ◌&&◌, List, [], ◌∷◌, ◌++◌, codes, nat_le, nat_lt}
use Rattle.std.specs.List.{flat_map, list_all}

-- does a byte print
abbrev pub prints : ℕ → Bool
prints byte = nat_le 32 byte && nat_le byte 126

-- a digit to base 16, as a byte
abbrev pub hex_digit : ℕ → ℕ
hex_digit digit = cond (nat_lt digit 10) (48 + digit) (87 + digit)

-- a byte of a quote; what doesn't print comes as \xNN
abbrev pub quoted_byte : ℕ → List ℕ
quoted_byte byte =
    cond (prints byte) (byte ∷ []) (codes "\\x" ++ (hex_digit (byte / 16) ∷ hex_digit (byte % 16) ∷ []))

-- bytes between quotes
abbrev pub quoted : List ℕ → List ℕ
quoted bytes = codes "'" ++ flat_map quoted_byte bytes ++ codes "'"

-- do bytes stay on one line: each of them prints
abbrev pub one_line : List ℕ → Bool
one_line = list_all prints
