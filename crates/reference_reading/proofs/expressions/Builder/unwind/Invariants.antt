use Rattle.std.proofs.Common.{vec_len}
use Rattle.reference_reading.proofs.expressions.Builder.unwind.Given as goal

abbrev pub decreases-loop-mark : goal.decreases-loop-mark
decreases-loop-mark l = vec_len l.self.marks
