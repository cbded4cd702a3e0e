-- What is read, and the code that is written.
use Rattle.std.specs.Prelude.{◌≡◌, ℕ, List, ◌++◌}
use Rattle.std.proofs.Math.Option.{Option, some}
use Rattle.meaning.specs.Base.{Bytes, each}
use Rattle.meaning.specs.Values.{Expr}
use Rattle.meaning.specs.Text.{read_to_end, expression, fuel}
use Rattle.code.specs.Postfix.{Instr, map_col, postfix}
use Rattle.language_pieces.specs.Pieces.{name_at}

-- code, its columns by their names in the line
unfoldable pub named_code : List ℕ → List (Instr ℕ) → List (Instr Bytes)
named_code line c = each (map_col (name_at line)) c

-- the expression that these pieces are, all of them, if they are one
unfoldable pub whole_expression : List Bytes → Option Expr
whole_expression pieces = read_to_end (expression (fuel pieces) pieces)

-- the expression is there, and its code stands behind the code that was there before
abbrev pub CodedBehind : Option Expr → List (Instr Bytes) → List (Instr Bytes) → Type 0
CodedBehind o before after = (e : Expr) × (o ≡ some e) × (after ≡ before ++ postfix e)
