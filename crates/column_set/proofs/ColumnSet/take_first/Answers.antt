use Rattle.std.proofs.Common.{refl, ap, ◌∙◌, lt_of_lt_of_le, pow_mono}
use Rattle.column_set.specs.Membership.{has}
use Rattle.column_set.proofs.Has.{has_none, trailing_first}
use Rattle.column_set.proofs.ColumnSet.take_first.Goals as goal

pub returns-then-self-eq0 : goal.returns-then-self-eq0
returns-then-self-eq0 c = record { width = refl; first = (λ k. ap (λ b. has b k) c.if-self-eq0.true ∙ has_none k, refl) }

pub returns : goal.returns
returns c =
    let t = trailing_first 64 c.args.self.now.bits (lt_of_lt_of_le c.args.self.now.within (pow_mono c.args.self.now.few)) c.if-self-eq0.false in
    record { width = c.remove.ensures.width; first = record { is_in = t.0; least = t.1; others = c.remove.ensures.columns } }
