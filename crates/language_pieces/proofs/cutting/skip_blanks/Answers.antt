use Rattle.std.proofs.lemmas.List.{take_rest}
use Rattle.language_pieces.proofs.Cut.{blanks_behind, blanks_stop}
use Rattle.language_pieces.proofs.cutting.skip_blanks.Goals as goal

pub returns-clause-same : goal.returns-clause-same
returns-clause-same c = rw (take_rest, c.blanks.ensures.count) (blanks_behind c.args.s.now)

pub returns-clause-stop : goal.returns-clause-stop
returns-clause-stop c = rw (take_rest, c.blanks.ensures.count) (blanks_stop c.args.s.now)
