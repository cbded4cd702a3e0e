-- Literals.
use Rattle.std.proofs.Math.Option.{Option, some, none}
use Rattle.std.specs.Prelude.{ℕ, cond, Some, None, codes, Option as Given}
use Rattle.meaning.specs.Base.{Bytes, same_bytes}
use Rattle.meaning.specs.Values.{Ty, t_num, t_word}
use Rattle.values.specs.Types.{type_of_kind}
use Rattle.values.specs.declared.types.Kind.{Kind}
use Rattle.values.specs.declared.number.Number.{Number}

-- the value of a number, if there is one
abbrev pub value_of_number : Given Number → Option ℕ
value_of_number None = none
value_of_number (Some n) = some n.value

-- a piece as a type: num or word
abbrev pub as_type : Bytes → Option Ty
as_type piece = cond (same_bytes piece (codes "num")) (some t_num) (cond (same_bytes piece (codes "word")) (some t_word) none)

-- the type that a kind stands for, if there is one
abbrev pub type_of : Given Kind → Option Ty
type_of None = none
type_of (Some k) = some (type_of_kind k)
