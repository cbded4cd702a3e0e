use Rattle.std.proofs.Common.{◌≡◌, ◌+◌, length}
use Rattle.values_tests.proofs.codes.repeat.Given as goal

abbrev pub invariant-loop-turn : goal.invariant-loop-turn
invariant-loop-turn l = (l.code.size ≡ l.initial.code.size) × (length l.code.instructions ≡ length l.initial.code.instructions + l._turn)
