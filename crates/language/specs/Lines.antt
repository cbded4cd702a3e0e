-- The lines of a text that have pieces, with their numbers.
use Rattle.std.specs.Borrow.{Bor}
use Rattle.std.specs.Prelude.{◌≡◌, ℕ, zero, suc, ◌+◌, ◌≤◌, min, Bool, false, cond, List, [], ◌∷◌, length, Some, None, Option as Given, ◌==◌}
use Rattle.meaning.specs.Text.{lines_of}
use Rattle.language_pieces.specs.Pieces.{cuts, none_left}
use Rattle.language_pieces.specs.Views.{ahead}
use Rattle.language_pieces.specs.declared.reader.Reader.{Reader}
use Rattle.language.specs.declared.lines.Lines.{Lines}

-- a line by its number, counted from 1, and its bytes
pub record Line : Type 0 where
  pub number : ℕ
  pub bytes : List ℕ

-- the lines that have pieces, behind the n-th line; next counts
abbrev pub numbered : (ℕ → ℕ) → ℕ → List (List ℕ) → List Line
numbered next n [] = []
numbered next n (s ∷ ss) =
    cond (none_left (cuts s)) (numbered next (next n) ss) (record { number = next n; bytes = s } ∷ numbered next (next n) ss)

-- the line behind n others; empty if there are fewer
abbrev pub line_at : List (List ℕ) → ℕ → List ℕ
line_at [] n = []
line_at (s ∷ ss) zero = s
line_at (s ∷ ss) (suc n) = line_at ss n

-- the number behind n, in a word
abbrev pub later : ℕ → ℕ
later n = min (n + 1) 18446744073709551615

-- is a byte a newline
abbrev pub is_newline : ℕ → Bool
is_newline byte = byte == 10

-- the lines of what is left of a text
abbrev pub lines_in : Given (Bor (List ℕ)) → List (List ℕ)
lines_in None = []
lines_in (Some s) = lines_of [] s.now

-- so many bytes are left of it
abbrev pub bytes_in : Given (Bor (List ℕ)) → ℕ
bytes_in None = 0
bytes_in (Some s) = length s.now

-- the lines that are left
unfoldable pub lines_left : Lines → List (List ℕ)
lines_left l = lines_in l.rest

-- the bytes that are left
abbrev pub bytes_left : Lines → ℕ
bytes_left l = bytes_in l.rest

-- the next line, its number and the lines behind it; none if none is left
abbrev pub NextLine : Lines → Given (Bor (List ℕ)) → Lines → Type 0
NextLine before None after = (lines_left before ≡ []) × (bytes_left after ≤ bytes_left before)
NextLine before (Some s) after =
    (lines_left before ≡ s.now ∷ lines_left after)
    × (after.number ≡ later before.number)
    × (length s.now ≤ bytes_left before)
    × (bytes_left after ≤ bytes_left before)

-- those of them that have pieces
unfoldable pub left_in : Lines → List Line
left_in l = numbered later l.number (lines_left l)

-- a reader of the first line with pieces, and the lines behind it
pub record LineFound (r : Reader) (before after : Lines) : Type 0 where
  pub lines : left_in before ≡ record { number = after.number; bytes = r.line.now } ∷ left_in after
  pub all : ahead r ≡ cuts r.line.now
  pub some_left : none_left (ahead r) ≡ false
  pub within : length r.line.now ≤ bytes_left before
