use Rattle.std.proofs.Common.{sym, ◌∙◌, ap, arith}
use Rattle.language_pieces.specs.Literals.{value_of_number}
use Rattle.language_pieces.proofs.Numbers.{number_bad}
use Rattle.language_pieces.proofs.literals.number_of.Goals as goal

pub returns-in_err-value : goal.returns-in_err-value
returns-in_err-value c =
    let h = c.in_err-value.ensures in
    ap value_of_number c.from_residual.ensures ∙ sym (number_bad c.args.piece.now c.loop-byte.byte-index c.loop-byte.value (omega arith) (λ d. omega (arith, h d)) c.loop-byte.invariant)
