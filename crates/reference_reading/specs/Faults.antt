-- Why a text is no question, in words.
use Rattle.std.specs.Prelude.{ℕ, List, ◌++◌, codes}
use Rattle.messages.specs.Quotes.{quoted}
use Rattle.reference_reading.specs.Spans.{part}
use Rattle.reference_reading.specs.declared.faults.Wanted.{Wanted}
use Rattle.reference_reading.specs.declared.faults.Wanted.TheVariants.{Name, Number, «Type», Value, Operator, Aggregate, Join, On, Gets, Colon, Comma, Close, Then, Else, NoneOf, End, TableOrFrom, Step}
use Rattle.reference_reading.specs.declared.faults.Fault.{Fault}
use Rattle.reference_reading.specs.declared.faults.Fault.TheVariants.{OpenQuote, LongWord, LargeNumber, NotANumber, StraySign, Found, Ends, NoFrom, OutOfMemory}

-- what was wanted
abbrev pub wanted_told : Wanted → List ℕ
wanted_told Name = codes "a name"
wanted_told Number = codes "a number"
wanted_told «Type» = codes "'num' or 'word'"
wanted_told Value = codes "a value"
wanted_told Operator = codes "an operator or the end of the expression"
wanted_told Aggregate = codes "'sum', 'count', 'min', 'max' or 'first'"
wanted_told Join = codes "'join'"
wanted_told On = codes "'on'"
wanted_told Gets = codes "'='"
wanted_told Colon = codes "':'"
wanted_told Comma = codes "',' or the end of the line"
wanted_told Close = codes "')'"
wanted_told Then = codes "'then'"
wanted_told Else = codes "'else'"
wanted_told NoneOf = codes "'(', 'num' or 'word'"
wanted_told End = codes "the end of the line"
wanted_told TableOrFrom = codes "'table' or 'from'"
wanted_told Step = codes "a step"

-- what is wrong, with the part of the text that is
abbrev pub fault_told : List ℕ → Fault → List ℕ
fault_told text OpenQuote = codes "a quote isn't closed"
fault_told text (LongWord word) = quoted (part text word) ++ codes " has more than seven bytes"
fault_told text (LargeNumber digits) = quoted (part text digits) ++ codes " isn't below 2^63"
fault_told text (NotANumber word) = quoted (part text word) ++ codes " is neither a name nor a number"
fault_told text (StraySign sign) = quoted (part text sign) ++ codes " has no meaning here"
fault_told text (Found wanted found) = wanted_told wanted ++ codes " expected, " ++ quoted (part text found) ++ codes " found"
fault_told text (Ends wanted) = wanted_told wanted ++ codes " expected, the line ends"
fault_told text NoFrom = codes "the text ends without 'from'"
fault_told text OutOfMemory = codes "out of memory"
