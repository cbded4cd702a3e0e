-- Where a text goes wrong, in words.
use Rattle.std.specs.Prelude.{ℕ, ◌+◌, min, cond, ◌&&◌, List, ◌++◌, length, take, drop, codes, decimal, ◌==◌, nat_lt}
use Rattle.meaning.specs.Text.{head_byte, head_piece}
use Rattle.language_pieces.specs.Pieces.{cuts}
use Rattle.language.specs.declared.faults.NotAQuestion.{NotAQuestion}
use Rattle.language.specs.declared.faults.Reason.{Reason}
use Rattle.language.specs.declared.faults.Reason.TheVariants.{OpenQuote, LongWord, LargeNumber, NotANumber, DigitFirst, Reserved, Stray, Expected, NoFrom}

-- the line, and the place in it, counted from 1
abbrev pub line_and_place : ℕ → ℕ → List ℕ
line_and_place line place = codes "line " ++ (decimal line ++ (codes ", place " ++ (decimal (min (place + 1) 18446744073709551615) ++ codes ": ")))

-- by the reason: a text that ends too early has no place
abbrev pub told_by : Reason → ℕ → ℕ → List ℕ
told_by OpenQuote line place = line_and_place line place
told_by LongWord line place = line_and_place line place
told_by LargeNumber line place = line_and_place line place
told_by NotANumber line place = line_and_place line place
told_by DigitFirst line place = line_and_place line place
told_by (Reserved e) line place = line_and_place line place
told_by Stray line place = line_and_place line place
told_by (Expected e) line place = line_and_place line place
told_by NoFrom line place = codes "line " ++ (decimal line ++ codes ": ")

-- where a text goes wrong
abbrev pub place_told : NotAQuestion → List ℕ
place_told e = told_by e.reason e.line e.place

-- a piece of a line, and the quote behind it if it is a word of data
abbrev pub with_quote : List ℕ → List ℕ → List ℕ
with_quote piece rest =
    cond (head_byte piece == 39 && nat_lt (length piece) (length rest)) (take (length piece + 1) rest) piece

-- the piece that a line has at a place; a word of data with the quote that closes it
abbrev pub found_at : List ℕ → ℕ → List ℕ
found_at line place = with_quote (head_piece (cuts (drop place line))) (drop place line)
