use Rattle.std.proofs.Common.{rules}
use Rattle.language_pieces.proofs.Cut.{cuts_none, note_none, word_cut}
use Rattle.language_pieces.proofs.cutting.first_piece.Goals as goal

pub returns-in-empty : goal.returns-in-empty
returns-in-empty c = search (rules, cuts_none)

pub returns-in-35 : goal.returns-in-35
returns-in-35 c = search (rules, note_none)

pub at-requires-clause-cut : goal.at-requires-clause-cut
at-requires-clause-cut c = rw c.word_length.ensures.count (search (rules, word_cut))
