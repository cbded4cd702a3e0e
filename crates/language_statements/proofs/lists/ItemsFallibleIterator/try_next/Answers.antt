use Rattle.std.proofs.Common.{sym, rules}
use Rattle.language_pieces.specs.Views.{ahead}
use Rattle.language_statements.specs.Items.{Shortens}
use Rattle.language_statements.proofs.Listed.{items_one}
use Rattle.language_statements.proofs.lists.ItemsFallibleIterator.try_next.Goals as goal

pub returns-clause-item : goal.returns-clause-item
returns-clause-item g c =
    let s : Shortens g.T.Parse.reads = search rules in
    items_one g.T.Parse.reads (ahead c.args.self.now.reader) (ahead c.parse.new.reader) _ s (sym c.if-is_over.ensures) c.in_ok-parse.ensures.item
