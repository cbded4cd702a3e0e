use Rattle.std.proofs.Common.{sym, ◌∙◌, arith}
use Rattle.language_expressions.proofs.Packed.{packed}
use Rattle.language_expressions.proofs.marks.MarkPacked.pack.Goals as goal

pub returns-in-Applied : goal.returns-in-Applied
returns-in-Applied c =
    packed c.operator_number.result c.applied_number.result c.in-Applied.operator c.operator_number.ensures.is c.applied_number.ensures.small ∙ (c.applied_number.ensures.is c.in-Applied.operator ∙ sym c.in-Applied.is)

pub returns-in-Compared : goal.returns-in-Compared
returns-in-Compared c =
    packed c.operator_number-in-Compared.result 9 c.in-Compared.operator c.operator_number-in-Compared.ensures.is (omega arith) ∙ sym c.in-Compared.is
