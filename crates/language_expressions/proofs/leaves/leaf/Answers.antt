use Rattle.std.proofs.Common.{sym, ap, ◌∙◌}
use Rattle.language_expressions.specs.Machine.{leaf}
use Rattle.language_expressions.proofs.Naming.{name_there, column_leaf}
use Rattle.language_expressions.proofs.leaves.leaf.Goals as goal

pub returns-then-is_name : goal.returns-then-is_name
returns-then-is_name c =
    let e = c.piece-piece.ensures in
    let n = name_there c.args.reader.now c.place.result c.piece-piece.result.now e (sym c.if-is_name.ensures) c.place.ensures.pieces in
    ap leaf (sym e) ∙ column_leaf _ _ _ c.piece-piece.result.now _ c.in_default.ensures c.in_default-word_of.ensures c.if-is_name.ensures n
