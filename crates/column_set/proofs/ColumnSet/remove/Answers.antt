use Rattle.std.proofs.Common.{sym, lt_of_lt_of_le}
use lib.Bits.{xor_lt}
use Rattle.column_set.proofs.Has.{removed, removed_none, first_within, bit_within}
use Rattle.column_set.proofs.ColumnSet.remove.Goals as goal

pub bit-requires : goal.bit-requires
bit-requires c = lt_of_lt_of_le (first_within c.args.self.now.bits c.args.self.now.width c.args.i c.args.self.now.within (sym c.if-contains.ensures)) c.args.self.now.few

pub invariant_of-self : goal.invariant_of-self
invariant_of-self c =
    let i = first_within c.args.self.now.bits c.args.self.now.width c.args.i c.args.self.now.within (sym c.if-contains.ensures) in
    record { few = c.args.self.now.few; within = xor_lt c.args.self.now.width c.args.self.now.bits c.bit.result c.args.self.now.within (bit_within c.args.i c.args.self.now.width c.bit.result c.bit.ensures i) }

pub returns-then-contains-clause-columns : goal.returns-then-contains-clause-columns
returns-then-contains-clause-columns c = removed c.args.self.now.bits c.args.i c.bit.result c.bit.ensures (sym c.if-contains.ensures)

pub returns-else-contains-clause-columns : goal.returns-else-contains-clause-columns
returns-else-contains-clause-columns c = removed_none c.args.self.now.bits c.args.i (sym c.if-contains.ensures)
