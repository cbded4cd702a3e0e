-- Sets of column numbers as bits: their columns, how many, and where.
use Rattle.std.specs.Prelude.{◌≡◌, ℕ, zero, suc, ◌+◌, ◌/◌, ◌%◌, ◌^◌, ◌<◌, ◌≤◌, Bool, true, false, cond, not, ◌&&◌, ◌||◌, List, [], ◌∷◌, ◌++◌, length, take, Some, None, Option as Given, ◌==◌, nat_lt}
use Rattle.std.proofs.Math.Option.{some}
use Rattle.meaning.specs.Base.{nth, Bytes, among}
use Rattle.meaning.specs.Values.{Col}
use Rattle.projection.specs.Projected.{project_cols}

-- is column i in the set
unfoldable pub has : ℕ → ℕ → Bool
has bits i = bits / 2 ^ i % 2 == 1

-- how many columns before the i-th are in the set
abbrev pub count_before : ℕ → ℕ → ℕ
count_before bits zero = 0
count_before bits (suc i) = count_before bits i + cond (has bits i) 1 0

-- the columns of the set that are before the i-th, in order
abbrev pub columns_before : ℕ → ℕ → List ℕ
columns_before bits zero = []
columns_before bits (suc i) = columns_before bits i ++ cond (has bits i) (i ∷ []) []

-- no column is in the set
abbrev pub Empty : ℕ → Type 0
Empty bits = (k : ℕ) → has bits k ≡ false

-- the columns before the i-th are in the set, and no others
abbrev pub AllBefore : ℕ → ℕ → Type 0
AllBefore i bits = (k : ℕ) → has bits k ≡ nat_lt k i

-- the set after has the columns of the set before, and column i
abbrev pub Inserted : ℕ → ℕ → ℕ → Type 0
Inserted before i after = (k : ℕ) → has after k ≡ (k == i || has before k)

-- the set after has the columns of the set before, column i left out
abbrev pub Removed : ℕ → ℕ → ℕ → Type 0
Removed before i after = (k : ℕ) → has after k ≡ (has before k && not (k == i))

-- the third set has the columns of the first two
abbrev pub United : ℕ → ℕ → ℕ → Type 0
United a b c = (k : ℕ) → has c k ≡ (has a k || has b k)

-- i is the first column of a set, and the set after has the others
pub record First (before i after : ℕ) : Type 0 where
  pub is_in : has before i ≡ true
  pub least : (k : ℕ) → k < i → has before k ≡ false
  pub others : Removed before i after

-- the first column is taken out of a set, unless it is empty
abbrev pub Taken : ℕ → Given ℕ → ℕ → Type 0
Taken before None after = Empty before × (after ≡ before)
Taken before (Some i) after = First before i after

-- the set has those of the columns cs whose names are among us
abbrev pub Marks : ℕ → List Bytes → List Col → Type 0
Marks bits us cs = (k : ℕ) (c : Col) → nth cs k ≡ some c → has bits k ≡ among c.name us

-- r is the place of column i in a table that has only the set's columns
abbrev pub ProjectedPlace : ℕ → ℕ → ℕ → Type 0
ProjectedPlace bits i r = (us : List Bytes) (cs : List Col) → Marks bits us cs → i ≤ length cs → r ≡ length (project_cols us (take i cs))
