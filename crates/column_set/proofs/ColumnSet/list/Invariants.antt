use Rattle.std.proofs.Common.{◌≡◌, ◌+◌, ◌++◌, length, take}
use Rattle.column_set.specs.Membership.{columns_before}
use Rattle.column_set.proofs.ColumnSet.list.Given as goal

abbrev pub invariant-loop-place : goal.invariant-loop-place
invariant-loop-place l =
    (goal.iterator-loop-place).can_next l.place-iterator ×
    (goal.iterator-loop-place).is_finite l.place-iterator ×
    (l.place-iterator.count + length l.place-iterator.iter ≡ length (columns_before l.fn.self.bits l.fn.self.width)) ×
    (take l.place-iterator.count l.into ++ l.place-iterator.iter ≡ columns_before l.fn.self.bits l.fn.self.width)
