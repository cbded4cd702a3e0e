use Rattle.std.proofs.Common.{ap, ◌∙◌}
use Rattle.expressions.specs.Algebra.{result, type_algebra}
use Rattle.expressions.specs.Words.{col_type_at}
use Rattle.expressions.proofs.Means.{result_type}
use Rattle.expressions.proofs.typing.type_of.Goals as goal

pub returns : goal.returns
returns c = let ws = c.args.word_columns in λ cs e h t. c.run.ensures ∙ (ap (result (type_algebra (col_type_at ws.bits ws.width))) h ∙ result_type ws.bits ws.width cs e t)
