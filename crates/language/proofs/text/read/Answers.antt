use Rattle.std.proofs.Common.{arith}
use Rattle.language.specs.Lines.{left_in}
use Rattle.language.proofs.Wholes.{first_lines, heads_refused, steps_refused, found, handed_on}
use Rattle.language.proofs.text.read.Goals as goal

pub returns-in_err-from : goal.returns-in_err-from
returns-in_err-from c =
    handed_on c.from_residual.result c.in_err-from.field-0.0 c.args.text.now c.from_residual.ensures.1
    (heads_refused _ c.args.text.now (left_in c.new-lines.result) (first_lines c.args.text.now c.new-lines.result (omega arith) c.new-lines.ensures.number c.new-lines.ensures.lines)
    c.in_err-from.ensures.heads.0 c.in_err-from.ensures.heads.1)

pub returns-in_err-check_lines : goal.returns-in_err-check_lines
returns-in_err-check_lines c =
    handed_on c.from_residual-in_err-check_lines.result c.in_err-check_lines.field-0.0 c.args.text.now c.from_residual-in_err-check_lines.ensures.1
    (steps_refused _ c.args.text.now (left_in c.new-lines.result) (left_in c.read_heads.new.lines) c.in_ok-from.from.now
    (first_lines c.args.text.now c.new-lines.result (omega arith) c.new-lines.ensures.number c.new-lines.ensures.lines)
    c.in_ok-from.ensures.heads.0 c.in_ok-from.ensures.heads.1 c.in_err-check_lines.ensures.0 c.in_err-check_lines.ensures.1)

pub returns : goal.returns
returns c =
    found c.args.text.now (record { tables = c.new.result; from = c.in_ok-from.from; steps = c.new-2.result }) c.new-lines.result c.read_heads.new.lines
    c.new.ensures c.new-2.ensures
    (first_lines c.args.text.now c.new-lines.result (omega arith) c.new-lines.ensures.number c.new-lines.ensures.lines)
    c.in_ok-from.ensures.heads.0 c.in_ok-check_lines.ensures
