use Rattle.std.proofs.Common.{rules}
use Rattle.language_pieces.proofs.Cut.{two_signs, one_sign}
use Rattle.language_pieces.proofs.cutting.sign_length.Goals as goal

pub returns-in-61-clause-cut : goal.returns-in-61-clause-cut
returns-in-61-clause-cut c = search (rules, two_signs)

pub returns-in_default-clause-cut : goal.returns-in_default-clause-cut
returns-in_default-clause-cut c = search (rules, one_sign)

pub returns-in_default-2-clause-cut : goal.returns-in_default-2-clause-cut
returns-in_default-2-clause-cut c = search (rules, one_sign)

pub returns-in_default-3-clause-cut : goal.returns-in_default-3-clause-cut
returns-in_default-3-clause-cut c = search (rules, one_sign)
