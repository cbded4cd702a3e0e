-- What a line has left.
use Rattle.std.specs.Prelude.{◌≡◌, ◌+◌, ◌<◌}
use Rattle.std.specs.VecDeque.{deque_len}
use Rattle.reference_reading.specs.declared.lines.Line.{Line}

-- one piece is gone
abbrev pub Took : Line → Line → Type 0
Took before after = deque_len after.pieces + 1 ≡ deque_len before.pieces

-- some pieces are gone
abbrev pub Shrank : Line → Line → Type 0
Shrank before after = deque_len after.pieces < deque_len before.pieces
