use Rattle.std.specs.VecDeque.{deque_len}
use Rattle.reference_reading.proofs.statements.items.Given as goal

abbrev pub decreases-loop-items : goal.decreases-loop-items
decreases-loop-items g l = deque_len l.line.pieces
