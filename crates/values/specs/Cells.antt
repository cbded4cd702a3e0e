-- Cells: values in words of a page; their order as words of a key.
use Rattle.std.specs.Prelude.{◌≡◌, ℕ, ◌+◌, ◌-◌, ◌%◌, ◌<◌, Bool, cond, ◌==◌, nat_lt}
use Rattle.meaning.specs.Base.{map_or}
use Rattle.meaning.specs.Values.{Value, null, num, word, Ty, num_limit, word_limit, null_cell, cell, cell_value}
use Rattle.meaning.specs.Steps.{same_value, less_value}

-- a number or a word within its limit, so that its cell is its own
abbrev pub InRange : Value → Type 0
InRange null = Unit {0}
InRange (num n) = n < num_limit
InRange (word n) = n < word_limit

-- what a word of a row stands for, the column's type aside; what is no cell is null
abbrev pub from_cell : ℕ → Value
from_cell n = cond (nat_lt n num_limit) (num n) (cond (nat_lt (n - num_limit) word_limit) (word (n - num_limit)) null)

-- what a word of a table's column of this type stands for; what is no cell of the type is null
abbrev pub from_stored : Ty → ℕ → Value
from_stored t n = map_or (cell_value t n) null (λ v. v)

-- a cell as a word of a key: null the least, then numbers, then words; turned round for keys that descend
abbrev pub key : Bool → ℕ → ℕ
key descending n = cond descending (null_cell - (n + 1) % 18446744073709551616) ((n + 1) % 18446744073709551616)

-- does a value come before another, ascending or descending
abbrev pub before_value : Bool → Value → Value → Bool
before_value descending a b = cond descending (less_value b a) (less_value a b)

-- comparing key words as numbers is the order of values, and equal key words are those of equal values
abbrev pub KeyOrder : Type 0
KeyOrder = (descending : Bool) (a b : Value) → InRange a → InRange b → (nat_lt (key descending (cell a)) (key descending (cell b)) ≡ before_value descending a b) × ((key descending (cell a) == key descending (cell b)) ≡ same_value a b)
