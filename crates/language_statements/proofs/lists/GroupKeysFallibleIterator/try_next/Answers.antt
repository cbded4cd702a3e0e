use Rattle.std.proofs.Common.{◌≡◌, sym, rules}
use Rattle.meaning.specs.Text.{parsed, read_name}
use Rattle.language_pieces.specs.Views.{ahead}
use Rattle.language_statements.proofs.Listed.{keys_one}
use Rattle.language_statements.proofs.lists.GroupKeysFallibleIterator.try_next.Goals as goal

pub returns-clause-item : goal.returns-clause-item
returns-clause-item c =
    let e : read_name (ahead c.args.self.now.reader) ≡ parsed c.in_ok-name.name.now (ahead c.parse.new.reader) = search rules in
    keys_one (ahead c.args.self.now.reader) (ahead c.parse.new.reader) c.in_ok-name.name.now (sym c.if-is.ensures) e
