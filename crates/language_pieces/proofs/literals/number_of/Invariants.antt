use Rattle.std.proofs.Common.{◌≡◌, drop}
use Rattle.meaning.specs.Text.{as_number}
use Rattle.language_pieces.proofs.Numbers.{reads_as}
use Rattle.language_pieces.proofs.literals.number_of.Given as goal

abbrev pub invariant-loop-byte : goal.invariant-loop-byte
invariant-loop-byte l = as_number l.piece ≡ reads_as l.value (drop l.byte-index l.piece)
