use Rattle.std.proofs.Common.{◌≡◌, ◌+◌, ◌++◌, length, take, set, sym, ap, ap₂, ◌∙◌, inl, arith, append-nil}
use Rattle.column_set.proofs.Places.{columns_counted, columns_few, one_written}
use Rattle.column_set.proofs.ColumnSet.list.Goals as goal

pub loop-place-init : goal.loop-place-init
loop-place-init c =
    let it = c.into_iter-place-iterator.ensures.into_iter_gives in
    let n = ap (λ i. i.count) it ∙ c.enumerate-place-items.ensures.count in
    let l = ap (λ i. i.iter) it ∙ (c.enumerate-place-items.ensures.source ∙ c.columns.ensures) in
    let few = columns_few c.args.self.bits c.args.self.width in
    let le = ap length l in
    let w = c.args.self.few in
    ((tt, tt, inl (omega arith)), tt, omega arith, ap₂ (λ k xs. take k c.args.into.now ++ xs) n l)

pub bounds-into-place : goal.bounds-into-place
bounds-into-place c =
    let l = ap length c.in-Some.ensures.steps.0 in
    let at = c.in-Some.ensures.steps.1 in
    let few = columns_few c.args.self.bits c.args.self.width in omega arith

pub loop-place-preserved : goal.loop-place-preserved
loop-place-preserved c =
    let steps = c.in-Some.ensures.steps in
    let l = ap length steps.0 in
    let few = columns_few c.args.self.bits c.args.self.width in
    let w = c.args.self.few in
    let at : c.next.new.self.count ≡ c.in-Some.place + 1 = omega arith in
    let inv = c.loop-place.invariant in (
      (tt, tt, inl (omega arith)),
      tt,
      omega arith,
      ap₂ (λ k x. take k (set c.loop-place.into c.in-Some.place x) ++ c.next.new.self.iter) at c.from.ensures
          ∙ (one_written c.in-Some.place c.in-Some.column c.loop-place.into c.next.new.self.iter (bounds-into-place c)
          ∙ (ap₂ (λ k xs. take k c.loop-place.into ++ xs) steps.1 (sym steps.0) ∙ inv.3)),
    )

pub returns-clause-listed : goal.returns-clause-listed
returns-clause-listed c =
    let none = c.in-None.ensures.steps.0.0 in
    let l = ap length none in
    let all = columns_counted c.args.self.bits c.args.self.width in
    let n : c.len.result ≡ c.loop-place.place-iterator.count = omega (arith, c.len.ensures.count) in
    ap (λ k. take k c.loop-place.into) n ∙ (sym (append-nil _) ∙ (ap (λ xs. take c.loop-place.place-iterator.count c.loop-place.into ++ xs) (sym none) ∙ c.loop-place.invariant.3))
