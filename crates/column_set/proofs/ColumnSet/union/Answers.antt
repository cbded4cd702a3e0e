use Rattle.std.proofs.Common.{lt_of_lt_of_le, pow_mono}
use lib.Bits.{or_lt}
use Rattle.column_set.proofs.Has.{has_or}
use Rattle.column_set.proofs.ColumnSet.union.Goals as goal

pub invariant_of-result : goal.invariant_of-result
invariant_of-result c = record { few = c.args.self.few; within = or_lt c.args.self.width c.args.self.bits c.args.other.bits c.args.self.within (lt_of_lt_of_le c.args.other.within (pow_mono c.requires)) }

pub returns-clause-columns : goal.returns-clause-columns
returns-clause-columns c = has_or c.args.self.bits c.args.other.bits
