use Rattle.std.proofs.Common.{◌≡◌, ap, ◌∙◌, arith, below_more}
use Rattle.meaning.specs.Base.{each}
use Rattle.code.specs.Postfix.{map_col}
use Rattle.code_columns.specs.Columns.{new_index}
use Rattle.code_columns.proofs.ProjectedCode.{code_each, projected_code}
use Rattle.code_columns.proofs.project.project.Goals as goal

pub loop-i-preserved : goal.loop-i-preserved
loop-i-preserved c =
    let f = map_col (new_index c.args.used) in (
      below_more _ _
          (λ k h. c.store.ensures.others k (omega arith) ∙ c.loop-i.invariant.0 k h)
          (c.store.ensures.stored ∙ (c.project_one-instruction.ensures ∙ ap f (c.fetch.ensures ∙ c.loop-i.invariant.1 _ (omega arith)))),
      λ k h. c.store.ensures.others k (omega arith) ∙ c.loop-i.invariant.1 k (omega arith),
    )

pub returns : goal.returns
returns c =
    let l : _ ≡ _ = c.loop-i.auto.code in
    let e = code_each (new_index c.args.used) c.args.code.now c.loop-i.code l (λ k h. c.loop-i.invariant.0 k (omega arith)) in
    record { length_is = l; code_is = e; stands_for = λ us cs x h w m u. e ∙ (ap (each (map_col (new_index c.args.used))) h ∙ projected_code c.args.used us cs w m x u) }
