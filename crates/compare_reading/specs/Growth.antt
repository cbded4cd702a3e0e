-- How many turns an expression takes to be written.
use Rattle.std.specs.Prelude.{ℕ, ◌+◌, ◌*◌}
use Rattle.std.specs.List.{sum_by}
use Rattle.compare_reading.specs.declared.growth.Growth.{Growth}
use Rattle.compare_reading.specs.declared.growth.Part.{Part}
use Rattle.compare_reading.specs.declared.growth.Part.TheVariants.{Expression, Either, Both, Condition, Sum, Product, Primary, Piece}

-- the turns that a part takes, where no part becomes several
abbrev pub turns_of : Part → ℕ
turns_of Expression = 7
turns_of Either = 6
turns_of Both = 5
turns_of Condition = 4
turns_of Sum = 3
turns_of Product = 2
turns_of Primary = 1
turns_of (Piece bytes) = 1

-- the turns that the waiting parts take at most
abbrev pub turns_left : Growth → ℕ
turns_left growth = sum_by turns_of growth.waiting.items + 30 * growth.branches
