use Rattle.std.specs.VecDeque.{deque_len}
use Rattle.reference_reading.proofs.expressions.read_expression.Given as goal

abbrev pub decreases-loop-piece : goal.decreases-loop-piece
decreases-loop-piece l = deque_len l.line.pieces
