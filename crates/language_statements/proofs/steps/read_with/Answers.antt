use Rattle.std.proofs.Common.{ap, ◌∙◌}
use Rattle.language_pieces.specs.Views.{ahead}
use Rattle.language_statements.specs.Statements.{verb_line}
use Rattle.language_statements.proofs.Stepped.{as_read, left_is}
use Rattle.language_statements.proofs.steps.read_with.Goals as goal

pub returns-in_ok-expect-in-Left : goal.returns-in_ok-expect-in-Left
returns-in_ok-expect-in-Left c =
    as_read c.read_join-in-Left.result _ _ _ _
    (ap (λ v. verb_line v (ahead c.args.reader)) c.in-Left.is ∙ left_is (ahead c.args.reader) (ahead c.expect.new.self) c.in_ok-expect-in-Left.ensures.read.0 c.in_ok-expect-in-Left.ensures.read.1)
    c.expect.ensures.line c.read_join-in-Left.ensures
