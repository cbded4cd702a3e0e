use Rattle.std.proofs.Common.{subst}
use Rattle.std.specs.Iterator.{YieldsFirst}
use Rattle.column_set.specs.Membership.{columns_before}
use Rattle.column_set.proofs.Places.{yields, progress}
use Rattle.column_set.proofs.columns.ColumnsIterator.next.Goals as goal

pub returns-clause-steps : goal.returns-clause-steps
returns-clause-steps c =
    let old = c.self.inside.rest in
    subst (λ s. YieldsFirst (λ l. l) s c.take_first.result (columns_before c.take_first.new.self.bits c.take_first.new.self.width)) c.self.view_is (yields old.bits old.width c.take_first.result _ _ old.within c.take_first.ensures.first c.take_first.ensures.width)

pub returns-clause-goes : goal.returns-clause-goes
returns-clause-goes c = progress _ c.take_first.result _ (returns-clause-steps c)
