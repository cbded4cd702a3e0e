-- What should have stood in a line, in words.
use Rattle.std.specs.Prelude.{ℕ, List, codes}
use Rattle.language_pieces.specs.declared.faults.Expected.{Expected}
use Rattle.language_pieces.specs.declared.faults.Expected.TheVariants.{Name, NameOrColon, Number, Kind, Operand, Operator, Aggregate, Join, On, Equals, Comma, Close, Then, Else, NoneOf, End, TableOrFrom, Step}

-- what should have stood there
abbrev pub expected_told : Expected → List ℕ
expected_told Name = codes "a name"
expected_told NameOrColon = codes "a name or ':'"
expected_told Number = codes "a number"
expected_told Kind = codes "'num' or 'word'"
expected_told Operand = codes "a value"
expected_told Operator = codes "an operator or the end of the expression"
expected_told Aggregate = codes "'sum', 'count', 'min', 'max' or 'first'"
expected_told Join = codes "'join'"
expected_told On = codes "'on'"
expected_told Equals = codes "'='"
expected_told Comma = codes "',' or the end of the line"
expected_told Close = codes "')'"
expected_told Then = codes "'then'"
expected_told Else = codes "'else'"
expected_told NoneOf = codes "'(', 'num' or 'word'"
expected_told End = codes "the end of the line"
expected_told TableOrFrom = codes "'table' or 'from'"
expected_told Step = codes "a step"
