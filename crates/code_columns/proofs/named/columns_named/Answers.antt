use Rattle.std.proofs.Common.{ap, ◌∙◌, arith}
use Rattle.meaning.specs.Base.{any}
use Rattle.code_columns.specs.Columns.{names_col}
use Rattle.code_columns.proofs.Names.{names_start, names_turn, names_end, marks_named}
use Rattle.code_columns.proofs.named.columns_named.Goals as goal

pub loop-instruction-init : goal.loop-instruction-init
loop-instruction-init c = (c.empty-set.ensures.width, λ k h. names_start k (c.empty-set.ensures.columns k) (c.into_iter-instruction-iterator.ensures.into_iter_gives ∙ c.new-instruction-items.ensures.code))

pub loop-instruction-preserved : goal.loop-instruction-preserved
loop-instruction-preserved c = (c.insert_column.ensures.width ∙ c.loop-instruction.invariant.0, λ k h. names_turn k _ _ _ c.in-Some.ensures.steps (c.insert_column.ensures.columns k (omega arith)) (c.loop-instruction.invariant.1 k h))

pub returns : goal.returns
returns c =
    record {
      width = c.loop-instruction.invariant.0;
      columns = λ cs e q w o. marks_named cs e c.loop-instruction.set.bits o (λ k h. names_end k _ _ c.in-None.ensures.steps.0 (c.loop-instruction.invariant.1 k (omega arith)) ∙ ap (any (names_col k)) q);
    }
