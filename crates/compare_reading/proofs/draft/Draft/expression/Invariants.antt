use Rattle.compare_reading.specs.Growth.{turns_left}
use Rattle.compare_reading.proofs.draft.Draft.expression.Given as goal

abbrev pub decreases-loop-part : goal.decreases-loop-part
decreases-loop-part l = turns_left l.growth
