use Rattle.std.proofs.Common.{◌≡◌, false, nat_lt, sym, ◌∙◌, arith}
use Rattle.std.proofs.lemmas.Bool.Decides.{nat_tests}
use Rattle.column_set.proofs.Has.{has_is, has_past}
use Rattle.column_set.proofs.ColumnSet.contains.Goals as goal

pub returns-then-i-self : goal.returns-then-i-self
returns-then-i-self c = sym (has_is c.args.self.bits c.args.i)

pub returns-else-i-self : goal.returns-else-i-self
returns-else-i-self c =
    let past = c.if-i-self.false in
    let no : nat_lt c.args.i c.args.self.width ≡ false = grind (arith, nat_tests) in
    no ∙ sym (has_past c.args.self.bits c.args.self.width c.args.i c.args.self.within past)
