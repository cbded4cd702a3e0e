use Rattle.std.proofs.Common.{◌≡◌, ◌+◌, ◌*◌, ◌≤◌, length}
use Rattle.language_pieces.specs.Views.{ahead}
use Rattle.language_expressions.specs.Machine.{goes_on}
use Rattle.language_expressions.specs.Turns.{state}
use Rattle.language_expressions.specs.Views.{named_code, whole_expression}
use Rattle.language_expressions.proofs.Standing.{Holds, turns_left}
use Rattle.language_expressions.proofs.reading.read_expression.Given as goal

abbrev pub invariant-loop-turn : goal.invariant-loop-turn
invariant-loop-turn l = record {
  line : l.reader.line.now ≡ l.initial.reader.line.now;
  room : l.marks.room ≡ l.initial.marks.room;
  size : l.code.size ≡ l.initial.code.size;
  within : 2 * length l.code.instructions ≤ l.code.size;
  holds : Holds (named_code l.initial.reader.line.now l.initial.code.instructions) (16 * length l.initial.reader.line.now + 44) (whole_expression (ahead l.initial.reader)) (goes_on (state l.wanted (ahead l.reader) l.marks.items (named_code l.initial.reader.line.now l.code.instructions)));
}

abbrev pub decreases-loop-turn : goal.decreases-loop-turn
decreases-loop-turn l = turns_left (state l.wanted (ahead l.reader) l.marks.items (named_code l.initial.reader.line.now l.code.instructions))
