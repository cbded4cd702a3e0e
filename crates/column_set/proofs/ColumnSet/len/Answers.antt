use Rattle.std.proofs.Common.{◌∙◌}
use lib.Count.{ones-le}
use Rattle.column_set.proofs.Has.{before_all}
use Rattle.column_set.proofs.Places.{before_projected}
use Rattle.column_set.proofs.ColumnSet.len.Goals as goal

pub returns : goal.returns
returns c =
    let e = before_all c.args.self.bits c.args.self.width c.args.self.within in
    record { count = e; projected = λ us cs m h. e ∙ before_projected c.args.self.bits us cs m c.args.self.width h; few = ones-le c.args.self.width c.args.self.bits c.args.self.within }
