use Rattle.std.specs.VecDeque.{deque_len}
use Rattle.reference_reading.proofs.statements.group_keys.Given as goal

abbrev pub decreases-loop-line : goal.decreases-loop-line
decreases-loop-line l = deque_len l.line.pieces
