use Rattle.std.proofs.Common.{◌≡◌, ◌≤◌, length}
use Rattle.meaning.specs.Base.{is_some}
use Rattle.language.specs.Lines.{bytes_left, left_in}
use Rattle.language.specs.Questions.{steps_in, wrong_step}
use Rattle.language.proofs.text.check_lines.Given as goal

abbrev pub invariant-loop-reader : goal.invariant-loop-reader
invariant-loop-reader l =
    (is_some (steps_in (left_in l.initial.lines)) ≡ is_some (steps_in (left_in l.lines)))
    × (wrong_step (left_in l.initial.lines) ≡ wrong_step (left_in l.lines))
    × (bytes_left l.lines ≤ bytes_left l.initial.lines)

abbrev pub decreases-loop-reader : goal.decreases-loop-reader
decreases-loop-reader l = length (left_in l.lines)
