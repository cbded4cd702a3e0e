use Rattle.std.proofs.Common.{slice_index, ◌∙◌}
use Rattle.code.proofs.Written.{stored, others}
use Rattle.code.proofs.instruction.Instruction.store.Goals as goal

pub returns : goal.returns
returns c = record { stored = stored c.args.code.now c.args.i (slice_index c.from.result 0) (slice_index c.from.result 1) c.requires ∙ c.from.ensures; others = others c.args.code.now c.args.i (slice_index c.from.result 0) (slice_index c.from.result 1) }
