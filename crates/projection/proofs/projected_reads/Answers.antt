use Rattle.projection.proofs.PagesRead.{projected_reads}
use Rattle.projection.proofs.projected_reads.Goals as goal

pub returns : goal.returns
returns c = projected_reads
