use Rattle.std.proofs.Common.{◌+◌, sym, ◌∙◌}
use Rattle.std.proofs.lemmas.List.{take_rest}
use Rattle.language_pieces.proofs.Cut.{quote_cut, quote_no_cut, drop_cut}
use Rattle.language_pieces.proofs.cutting.cut_quote.Goals as goal

pub returns-in_default : goal.returns-in_default
returns-in_default c =
    let q = rw take_rest at c.quote_place.ensures in
    quote_no_cut c.args.s.now c.requires.some c.requires.quote (sym q ∙ c.in_default.is)

pub returns : goal.returns
returns c =
    let q = rw take_rest at c.quote_place.ensures in
    let r = drop_cut c.args.s.now _ _ (c.in-Some.length + 2) (take_rest c.args.s.now (c.in-Some.length + 2)) (quote_cut c.args.s.now c.in-Some.length c.requires.some c.requires.quote (sym q ∙ c.in-Some.is)) in
    record { pieces = r.0; end = r.1 }
