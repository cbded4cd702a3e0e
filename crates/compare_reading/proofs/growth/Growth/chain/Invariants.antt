use Rattle.std.proofs.Common.{◌+◌, ◌≤◌}
use Rattle.compare_reading.specs.Growth.{turns_left, turns_of}
use Rattle.compare_reading.proofs.growth.Growth.chain.Given as goal

abbrev pub invariant-loop : goal.invariant-loop
invariant-loop l = turns_left l.self ≤ turns_left l.fn.self + turns_of l.operand
