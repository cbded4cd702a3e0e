use Rattle.language_pieces.specs.Views.{ahead}
use Rattle.language_statements.proofs.Listed.{keys_behind}
use Rattle.language_statements.proofs.steps.read_group.Goals as goal

pub returns : goal.returns
returns c = (keys_behind (ahead c.args.reader) c.finish.new.list c.in_ok-finish.ensures.kept, tt)
