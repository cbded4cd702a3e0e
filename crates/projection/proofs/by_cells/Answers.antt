use Rattle.projection.proofs.ByPosition.{make_by_cells, join_by_cells, group_by_cells}
use Rattle.projection.proofs.by_cells.Goals as goal

pub returns : goal.returns
returns c = record { make = make_by_cells; join = join_by_cells; group = group_by_cells }
