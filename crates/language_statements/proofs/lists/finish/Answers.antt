use Rattle.std.proofs.Common.{sym, refl, ap, ◌∙◌}
use Rattle.meaning.specs.Base.{is_some}
use Rattle.language_statements.proofs.Listed.{unchanged_more, unchanged_some, unchanged_end, err_none}
use Rattle.language_statements.proofs.lists.finish.Goals as goal

pub loop-init : goal.loop-init
loop-init g c = λ f u. refl

pub returns-in_err-try_next-clause-whole : goal.returns-in_err-try_next-clause-whole
returns-in_err-try_next-clause-whole g c =
    err_none c.from_residual.result (g.L.FallibleIterator.left c.loop.list).whole c.from_residual.ensures.0 c.in_err-try_next.ensures.item
    ∙ sym (unchanged_some g.L.FallibleIterator.more (g.L.FallibleIterator.left c.args.list.now) (g.L.FallibleIterator.left c.loop.list) c.loop.invariant)

pub loop-smaller-in-Some : goal.loop-smaller-in-Some
loop-smaller-in-Some g c = let h = rw c.in-Some.is at c.in_ok-try_next.ensures.item in h.fewer

pub loop-preserved-in-Some : goal.loop-preserved-in-Some
loop-preserved-in-Some g c =
    let h = rw c.in-Some.is at c.in_ok-try_next.ensures.item in
    unchanged_more g.L.FallibleIterator.more _ (g.L.FallibleIterator.left c.args.list.now) (g.L.FallibleIterator.left c.loop.list) _ c.loop.invariant h

pub returns-clause-whole : goal.returns-clause-whole
returns-clause-whole g c =
    let h = rw c.in_default.is at c.in_ok-try_next.ensures.item in
    sym (unchanged_some g.L.FallibleIterator.more (g.L.FallibleIterator.left c.args.list.now) (g.L.FallibleIterator.left c.loop.list) c.loop.invariant ∙ ap is_some h)

pub returns-clause-kept : goal.returns-clause-kept
returns-clause-kept g c =
    let h = rw c.in_default.is at c.in_ok-try_next.ensures.item in
    unchanged_end g.L.FallibleIterator.over g.L.FallibleIterator.more (g.L.FallibleIterator.left c.args.list.now) (g.L.FallibleIterator.left c.loop.list) (g.L.FallibleIterator.left c.try_next.new.self) c.loop.invariant h
