-- Why a question isn't sound, in words.
use Rattle.std.specs.Prelude.{ℕ, List, ◌++◌, codes, decimal}
use Rattle.messages.specs.Quotes.{quoted}
use Rattle.reference_reading.specs.Spans.{part}
use Rattle.reference_planning.specs.declared.faults.Unsound.{Unsound}
use Rattle.reference_planning.specs.declared.faults.Unsound.TheVariants.{SameTable, SameColumn, NoColumns, TooManyColumns, BeyondBorder, NoTable, NoColumn, NotInTable, WantsNumber, WantsNumbers, WantsOneType, SumOfWords, TypesDiffer, OtherColumns, OutOfMemory}

-- what a word of the language wants
abbrev pub wants : List ℕ → List ℕ → List ℕ
wants word wanted = codes "'" ++ (word ++ (codes "' wants " ++ wanted))

-- what is wrong, with the parts of the text that are
abbrev pub unsound_told : List ℕ → Unsound → List ℕ
unsound_told text (SameTable name) = codes "a second table is named " ++ quoted (part text name)
unsound_told text (SameColumn name) = codes "a second column is named " ++ quoted (part text name)
unsound_told text NoColumns = codes "there are no columns"
unsound_told text (TooManyColumns count) = decimal count ++ codes " columns, more than 64"
unsound_told text (BeyondBorder name pages) = codes "column " ++ (quoted (part text name) ++ (codes " ends behind the file's " ++ (decimal pages ++ codes " pages")))
unsound_told text (NoTable name) = codes "no table " ++ quoted (part text name)
unsound_told text (NoColumn name step) = codes "no column " ++ (quoted (part text name) ++ (codes " behind " ++ quoted (part text step)))
unsound_told text (NotInTable name table) = codes "no column " ++ (quoted (part text name) ++ (codes " in table " ++ quoted (part text table)))
unsound_told text (WantsNumber word) = wants word.now (codes "a number")
unsound_told text (WantsNumbers word) = wants word.now (codes "numbers")
unsound_told text (WantsOneType word) = wants word.now (codes "two values of one type")
unsound_told text (SumOfWords name) = codes "'sum' wants numbers, not the words of column " ++ quoted (part text name)
unsound_told text (TypesDiffer x y) = codes "columns " ++ (quoted (part text x) ++ (codes " and " ++ (quoted (part text y) ++ codes " differ in type")))
unsound_told text (OtherColumns table step) = codes "table " ++ (quoted (part text table) ++ (codes " has other columns than stand behind " ++ quoted (part text step)))
unsound_told text OutOfMemory = codes "out of memory"
