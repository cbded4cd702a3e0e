-- Cells and what they stand for.
use Rattle.std.proofs.Common.{◌≡◌, ℕ, arith}
use Rattle.std.proofs.lemmas.Bool.Decides.{nat_tests}
use Rattle.meaning.specs.Values.{Value as V, cell}
use Rattle.values.specs.declared.types.Value.{Value}
use Rattle.values.specs.declared.types.Value.TheVariants.{Null, Number, Word}
use Rattle.values.specs.Types.{value_of}
use Rattle.values.specs.Cells.{InRange, from_cell}

-- what has a cell comes back from it
pub from_cell_cell : (v : V) → InRange v → from_cell (cell v) ≡ v
from_cell_cell v h = grind (arith, nat_tests)

-- the code's values are all in range
pub in_range : (v : Value) → InRange (value_of v)
in_range Null = tt
in_range (Number n) = n.below
in_range (Word w) = w.below

-- and so is what any word stands for
pub from_cell_in_range : (n : ℕ) → InRange (from_cell n)
from_cell_in_range n = grind (arith, nat_tests)
