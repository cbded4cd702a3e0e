-- Lists that are read item by item.
use Rattle.std.specs.Prelude.{◌≡◌, ℕ, zero, suc, ◌<◌, true, List, [], ◌∷◌, length, Some, None, Ok, Err, Option as Given, Result}
use Rattle.std.proofs.Math.Option.{Option, some, none}
use Rattle.meaning.specs.Base.{and_then, is_some, Bytes}
use Rattle.meaning.specs.Text.{Parsed, then_read}

-- at most n items, to the end of a line
abbrev pub items_within : {A : Type 0} → (List Bytes → Option (Parsed A)) → ℕ → List Bytes → Option (List A)
items_within reads n [] = some []
items_within reads zero (x ∷ l) = none
items_within reads (suc n) (x ∷ l) = then_read (reads (x ∷ l)) (λ a l1. and_then (items_within reads n l1) (λ more. some (a ∷ more)))

-- the items that these pieces are, all of them
unfoldable pub all_items : {A : Type 0} → (List Bytes → Option (Parsed A)) → List Bytes → Option (List A)
all_items reads l = items_within reads (length l) l

-- what is left of a list: what its items stand for together, if they are right, and the pieces
pub record Left (W : Type 0) : Type 0 where
  pub whole : Option W
  pub pieces : List Bytes

-- what is left of items up to the end of a line
abbrev pub items_left : {A : Type 0} → (List Bytes → Option (Parsed A)) → List Bytes → Left (List A)
items_left reads l = record { whole = all_items reads l; pieces = l }

-- the list before has one item more than the one after
pub record GoesOn {W : Type 0} (more : W → W) (before after : Left W) : Type 0 where
  pub is : before.whole ≡ and_then after.whole (λ w. some (more w))
  pub fewer : length after.pieces < length before.pieces

-- taking an item: one more, none, or something that makes the list wrong
abbrev pub ItemRead : {W V E : Type 0} → (List Bytes → W) → (V → W → W) → Left W → Result (Given V) E → Left W → Type 0
ItemRead over more before (Err f) after = before.whole ≡ none
ItemRead over more before (Ok None) after = before.whole ≡ some (over after.pieces)
ItemRead over more before (Ok (Some v)) after = GoesOn (more v) before after

-- the same without the error: a list that is right has one item more, or none
abbrev pub ItemGiven : {W V : Type 0} → (List Bytes → W) → (V → W → W) → Left W → Given V → Left W → Type 0
ItemGiven over more before None after = is_some before.whole ≡ true → before.whole ≡ some (over after.pieces)
ItemGiven over more before (Some v) after = GoesOn (more v) before after

-- what no item changes is the same of the items before and after
abbrev pub Unchanged : {W V : Type 0} → (V → W → W) → Left W → Left W → Type 0
Unchanged {W} {V} more before after =
    (f : W → List Bytes) → ((v : V) (w : W) → f (more v w) ≡ f w) → and_then before.whole (λ w. some (f w)) ≡ and_then after.whole (λ w. some (f w))

-- what no item changes is that of the end
abbrev pub Kept : {W V : Type 0} → (List Bytes → W) → (V → W → W) → Left W → Left W → Type 0
Kept {W} {V} over more before after =
    (f : W → List Bytes) → ((v : V) (w : W) → f (more v w) ≡ f w) → and_then before.whole (λ w. some (f w)) ≡ some (f (over after.pieces))
