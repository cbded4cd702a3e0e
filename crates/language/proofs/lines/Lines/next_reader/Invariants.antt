use Rattle.std.proofs.Common.{◌≡◌, ◌≤◌, length}
use Rattle.language.specs.Lines.{bytes_left, lines_left, left_in}
use Rattle.language.proofs.lines.Lines.next_reader.Given as goal

abbrev pub invariant-loop-line : goal.invariant-loop-line
invariant-loop-line l = (left_in l.initial.self ≡ left_in l.self) × (bytes_left l.self ≤ bytes_left l.initial.self)

abbrev pub decreases-loop-line : goal.decreases-loop-line
decreases-loop-line l = length (lines_left l.self)
