use Rattle.std.proofs.Common.{◌≡◌, false, arith, rules}
use Rattle.std.proofs.lemmas.Fmt.{hex_byte}
use Rattle.messages.specs.Quotes.{prints}
use Rattle.messages.proofs.quotes.QuotedByteDisplay.fmt.Goals as goal

pub returns-else-prints-clause-writes : goal.returns-else-prints-clause-writes
returns-else-prints-clause-writes g c =
    let not-printed : prints c.args.self.now.0 ≡ false = let h = c.if-prints.false in let k = c.prints.ensures in search rules in
    rw not-printed
    (rw (c.laid_out.ensures, c.in_radix.ensures, hex_byte false c.args.self.now.0 (omega arith)) at c.write.ensures.writes)
