use Rattle.std.proofs.Common.{◌%◌, ◌^◌, ◌≤◌, sym, ap, ◌∙◌, subst, mod-lt, pow_pos}
use lib.Count.{ones, ones-le}
use Rattle.column_set.proofs.Has.{before_ones}
use Rattle.column_set.proofs.Places.{before_projected}
use Rattle.column_set.proofs.ColumnSet.count_before.Goals as goal

pub returns : goal.returns
returns c =
    let e = ap (λ x. ones (c.args.self.bits % x)) c.bit.ensures ∙ before_ones c.args.self.bits c.args.i in
    record { count = e; projected = λ us cs m h. e ∙ before_projected c.args.self.bits us cs m c.args.i h; few = subst (λ x. ones (c.args.self.bits % x) ≤ c.args.i) (sym c.bit.ensures) (ones-le c.args.i (c.args.self.bits % 2 ^ c.args.i) (mod-lt c.args.self.bits (pow_pos c.args.i))) }
