-- Options, lists and names.
use Rattle.std.specs.Prelude.{ℕ, zero, suc, Bool, true, false, cond, not, ◌&&◌, ◌||◌, List, [], ◌∷◌, ◌++◌, ◌==◌}
use Rattle.std.proofs.Math.Option.{Option, some, none}

-- f of what an option holds, or c if it holds nothing
abbrev pub map_or : {A C : Type 0} → Option A → C → (A → C) → C
map_or none c f = c
map_or (some x) c f = f x

-- the option that f gives for what an option holds
abbrev pub and_then : {A C : Type 0} → Option A → (A → Option C) → Option C
and_then none f = none
and_then (some x) f = f x

-- the first of two options that holds something
abbrev pub or_else : {A : Type 0} → Option A → Option A → Option A
or_else none b = b
or_else (some x) b = some x

-- an option, if a test is passed
abbrev pub when : {A : Type 0} → Bool → Option A → Option A
when true o = o
when false o = none

-- does an option hold something
abbrev pub is_some : {A : Type 0} → Option A → Bool
is_some none = false
is_some (some x) = true

-- the element at place n, counted from 0
abbrev pub nth : {A : Type 0} → List A → ℕ → Option A
nth [] n = none
nth (x ∷ xs) zero = some x
nth (x ∷ xs) (suc n) = nth xs n

-- does f hold of all elements
abbrev pub all : {A : Type 0} → (A → Bool) → List A → Bool
all f [] = true
all f (x ∷ xs) = f x && all f xs

-- does f hold of any element
abbrev pub any : {A : Type 0} → (A → Bool) → List A → Bool
any f [] = false
any f (x ∷ xs) = f x || any f xs

-- f of each element
abbrev pub each : {A C : Type 0} → (A → C) → List A → List C
each f [] = []
each f (x ∷ xs) = f x ∷ each f xs

-- the elements of which f holds
abbrev pub filter : {A : Type 0} → (A → Bool) → List A → List A
filter f [] = []
filter f (x ∷ xs) = cond (f x) (x ∷ filter f xs) (filter f xs)

-- the lists that f gives for the elements, one after the other
abbrev pub flat_map : {A C : Type 0} → (A → List C) → List A → List C
flat_map f [] = []
flat_map f (x ∷ xs) = f x ++ flat_map f xs

-- P holds of every element
abbrev pub Every : {A : Type 0} → (A → Type 0) → List A → Type 0
Every P [] = Unit {0}
Every P (x ∷ xs) = P x × Every P xs

-- a is an element of a list: its first, or one of the rest
pub data Member {A : Type 0} (a : A) : List A → Type 0 where
  here : {xs : List A} → Member a (a ∷ xs)
  there : {x : A} {xs : List A} → Member a xs → Member a (x ∷ xs)

-- a name, or a piece of a text, as its bytes
abbrev pub Bytes : Type 0
Bytes = List ℕ

-- are two names equal
abbrev pub same_bytes : Bytes → Bytes → Bool
same_bytes [] [] = true
same_bytes [] (y ∷ ys) = false
same_bytes (x ∷ xs) [] = false
same_bytes (x ∷ xs) (y ∷ ys) = x == y && same_bytes xs ys

-- is a name among names
abbrev pub among : Bytes → List Bytes → Bool
among x xs = any (same_bytes x) xs

-- are no two names equal
abbrev pub all_different : List Bytes → Bool
all_different [] = true
all_different (x ∷ xs) = not (among x xs) && all_different xs
