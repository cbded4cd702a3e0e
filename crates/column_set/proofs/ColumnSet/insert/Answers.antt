use lib.Bits.{or_lt}
use Rattle.column_set.proofs.Has.{inserted, bit_within}
use Rattle.column_set.proofs.ColumnSet.insert.Goals as goal

pub invariant_of-self : goal.invariant_of-self
invariant_of-self c = record { few = c.args.self.now.few; within = or_lt c.args.self.now.width c.args.self.now.bits c.bit.result c.args.self.now.within (bit_within c.args.i c.args.self.now.width c.bit.result c.bit.ensures c.requires) }

pub returns-clause-columns : goal.returns-clause-columns
returns-clause-columns c = inserted c.args.self.now.bits c.args.i c.bit.result c.bit.ensures
