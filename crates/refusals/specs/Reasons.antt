-- Why a text is no question, in words.
use Rattle.std.specs.Prelude.{ℕ, cond, List, ◌++◌, length, codes, ◌==◌}
use Rattle.language.specs.declared.faults.Reason.{Reason}
use Rattle.language.specs.declared.faults.Reason.TheVariants.{OpenQuote, LongWord, LargeNumber, NotANumber, DigitFirst, Reserved, Stray, Expected, NoFrom}
use Rattle.language_pieces.specs.Faults.{expected_told}
use Rattle.messages.specs.Quotes.{quoted}

-- what was expected, and the piece that was found; none at the end of a line
abbrev pub expected_found : List ℕ → List ℕ → List ℕ
expected_found expected piece =
    cond (length piece == 0) (expected ++ codes " expected, the line ends")
    (expected ++ codes " expected, " ++ quoted piece ++ codes " found")

-- the reason for a refusal, with the piece at its place
abbrev pub reason_told : Reason → List ℕ → List ℕ
reason_told OpenQuote piece = codes "a quote isn't closed"
reason_told LongWord piece = quoted piece ++ codes " has more than seven bytes"
reason_told LargeNumber piece = quoted piece ++ codes " isn't below 2^63"
reason_told NotANumber piece = quoted piece ++ codes " is neither a name nor a number"
reason_told DigitFirst piece = quoted piece ++ codes " is no name: a name doesn't begin with a digit"
reason_told Stray piece = quoted piece ++ codes " has no meaning here"
reason_told NoFrom piece = codes "the text ends without 'from'"
reason_told (Reserved e) piece = expected_told e ++ codes " expected, " ++ quoted piece ++ codes " found, a word of the language"
reason_told (Expected e) piece = expected_found (expected_told e) piece
