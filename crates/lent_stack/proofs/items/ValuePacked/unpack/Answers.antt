use Rattle.lent_stack.proofs.Cells.{value_of_cell}
use Rattle.lent_stack.proofs.items.ValuePacked.unpack.Goals as goal

pub returns : goal.returns
returns c = value_of_cell c.from_cell.result c.args.word c.from_cell.ensures
