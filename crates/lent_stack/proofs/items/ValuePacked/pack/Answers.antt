use Rattle.std.proofs.Common.{sym}
use Rattle.lent_stack.proofs.Cells.{value_of_cell}
use Rattle.lent_stack.proofs.items.ValuePacked.pack.Goals as goal

pub returns : goal.returns
returns c = sym (value_of_cell c.args.self c.to_cell.result (sym c.to_cell.ensures.back))
