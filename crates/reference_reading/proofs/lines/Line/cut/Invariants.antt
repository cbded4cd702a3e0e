use Rattle.std.proofs.Common.{◌≤◌, length}
use Rattle.reference_reading.proofs.lines.Line.cut.Given as goal

abbrev pub invariant-loop-first : goal.invariant-loop-first
invariant-loop-first l = length l.behind.bytes.now ≤ length l.line.bytes.now

abbrev pub decreases-loop-first : goal.decreases-loop-first
decreases-loop-first l = length l.behind.bytes.now
