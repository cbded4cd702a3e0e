use Rattle.projection.proofs.Course.{turned_twice}
use Rattle.projection.proofs.turned_twice.Goals as goal

pub returns : goal.returns
returns c = turned_twice
