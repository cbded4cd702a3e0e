-- Values and types in words.
use Rattle.std.specs.Prelude.{ℕ, ◌-◌, cond, ◌==◌, Some, None, Option}
use Rattle.std.proofs.Math.Decide.{dec_lt}
use Rattle.meaning.specs.Values.{num_limit, word_limit}
use Rattle.values.specs.declared.types.Value.{Value}
use Rattle.values.specs.declared.types.Value.TheVariants.{Null, Number, Word}
use Rattle.values.specs.declared.types.Kind.{Kind}
use Rattle.values.specs.declared.types.Kind.TheVariants.{Number as NumberKind, Word as WordKind}

-- the value of a cell; what is no cell is null
abbrev pub value_in : ℕ → Value
value_in w =
    elim (dec_lt w num_limit) [
      | yes h ↦ Number (record { value = w; below = h })
      | no h ↦ elim (dec_lt (w - num_limit) word_limit) [ yes k ↦ Word (record { number = w - num_limit; below = k }) | no k ↦ Null ]
    ]

-- the type, if any, of a word
abbrev pub kind_in : ℕ → Option Kind
kind_in w = cond (w == 0) (Some NumberKind) (cond (w == 1) (Some WordKind) None)
