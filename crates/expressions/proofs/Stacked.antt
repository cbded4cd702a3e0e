-- What the top of a stack stands for.
use Rattle.std.proofs.Common.{◌≡◌, List, [], ◌∷◌, refl}
use Rattle.meaning.specs.Base.{each}
use Rattle.expressions.specs.Algebra.{top}

pub top_each : {A C : Type 0} (f : A → C) (d : A) (xs : List A) → f (top d xs) ≡ top (f d) (each f xs)
top_each f d [] = refl
top_each f d (x ∷ xs) = refl
