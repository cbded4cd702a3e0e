use Rattle.projection.proofs.Course.{course_starts, course_turns, course_ends}
use Rattle.projection.proofs.course_leads.Goals as goal

pub returns : goal.returns
returns c = record { starts = course_starts; turns = course_turns; ends = course_ends }
