-- Rows of cells.
use Rattle.std.proofs.Common.{◌≡◌, ℕ, zero, suc, ◌<◌, ◌≤◌, List, [], ◌∷◌, length, get_or, refl, arith}
use Rattle.meaning.specs.Values.{null}
use Rattle.values.specs.Cells.{from_cell}
use Rattle.expressions.specs.Algebra.{value_at}
use Rattle.expressions.specs.Words.{row_of}

pub at_cell : (ws : List ℕ) (i : ℕ) → i < length ws → value_at (row_of ws) i ≡ from_cell (get_or ws i 0)
at_cell [] i h = absurd (omega arith)
at_cell (w ∷ ws) zero h = refl
at_cell (w ∷ ws) (suc i) h = at_cell ws i (omega arith)

pub at_past : (ws : List ℕ) (i : ℕ) → length ws ≤ i → value_at (row_of ws) i ≡ null
at_past [] i h = refl
at_past (w ∷ ws) zero h = absurd (omega arith)
at_past (w ∷ ws) (suc i) h = at_past ws i (omega arith)
