use Rattle.std.proofs.Common.{string_bytes, arith}
use Rattle.std.proofs.lemmas.Result.{IfOk-weaker}
use Rattle.messages.proofs.OneLine.{quote_prints}
use Rattle.messages.proofs.quotes.quote.Goals as goal

pub returns-clause-one_line : goal.returns-clause-one_line
returns-clause-one_line c =
    IfOk-weaker _ _ _
    (λ m. quote_prints c.args.name.now _ (string_bytes m) (λ i. let fits = c.type_inv.name i in omega arith) c.as_bytes.ensures.value)
    c.to_string.ensures.ok
