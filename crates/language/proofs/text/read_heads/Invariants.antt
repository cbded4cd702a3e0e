use Rattle.std.proofs.Common.{◌≡◌, ◌≤◌, length}
use Rattle.language.specs.Lines.{bytes_left, left_in}
use Rattle.language.specs.Questions.{after_tables, wrong_in}
use Rattle.language.proofs.text.read_heads.Given as goal

abbrev pub invariant-loop-reader : goal.invariant-loop-reader
invariant-loop-reader l =
    (after_tables (left_in l.initial.lines) ≡ after_tables (left_in l.lines))
    × (wrong_in (left_in l.initial.lines) ≡ wrong_in (left_in l.lines))
    × (bytes_left l.lines ≤ bytes_left l.initial.lines)

abbrev pub decreases-loop-reader : goal.decreases-loop-reader
decreases-loop-reader l = length (left_in l.lines)
