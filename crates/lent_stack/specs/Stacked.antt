-- Stacks, and words as their items.
use Rattle.std.specs.Prelude.{ℕ, zero, suc, List, [], ◌∷◌, length, Option, Some, None, slice_index}

-- a stack: its items, the last one first, and for how many it has room
pub record Stacked (T : Type 0) : Type 0 where
  pub items : List T
  pub room : ℕ

-- what the first d words stand for, the last one first
abbrev pub unpacked_first : {T : Type 0} → (ℕ → T) → List ℕ → ℕ → List T
unpacked_first f ws zero = []
unpacked_first f ws (suc d) = f (slice_index ws d) ∷ unpacked_first f ws d

-- the first d words as a stack
abbrev pub on_words : {T : Type 0} → (ℕ → T) → List ℕ → ℕ → Stacked T
on_words f ws d = record { items = unpacked_first f ws d; room = length ws }

-- the first of some items
abbrev pub first : {T : Type 0} → List T → Option T
first [] = None
first (x ∷ xs) = Some x

-- the items behind the first
abbrev pub rest : {T : Type 0} → List T → List T
rest [] = []
rest (x ∷ xs) = xs

-- a stack with an item more
abbrev pub pushed : {T : Type 0} → T → Stacked T → Stacked T
pushed x s = record { items = x ∷ s.items; room = s.room }

-- a stack without its last item
abbrev pub popped : {T : Type 0} → Stacked T → Stacked T
popped s = record { items = rest s.items; room = s.room }
