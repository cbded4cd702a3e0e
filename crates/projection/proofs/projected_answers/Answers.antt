use Rattle.projection.proofs.WholeRun.{projected_answers}
use Rattle.projection.proofs.projected_answers.Goals as goal

pub returns : goal.returns
returns c = projected_answers
