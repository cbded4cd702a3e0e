-- Rows and stacks in words, and what the code in words comes to.
use Rattle.std.specs.Prelude.{◌≡◌, ℕ, Bool, true, false, cond, List, length, Some, None, Option as Given, nat_lt}
use Rattle.std.proofs.Math.Option.{Option, some, none}
use Rattle.meaning.specs.Base.{each, nth}
use Rattle.meaning.specs.Values.{Ty, t_num, t_word, Expr, Row, Col, eval, type_of}
use Rattle.values.specs.Types.{value_of, type_of_kind}
use Rattle.values.specs.Cells.{from_cell}
use Rattle.values.specs.declared.types.Value.{Value}
use Rattle.values.specs.declared.types.Kind.{Kind}
use Rattle.column_set.specs.Membership.{has}
use Rattle.code.specs.Postfix.{code_for}
use Rattle.code.specs.Words.{code_in}

-- the row in words
abbrev pub row_of : List ℕ → Row
row_of ws = each from_cell ws

-- the code's type, if any, as one of the definitions
abbrev pub maybe_type : Given Kind → Option Ty
maybe_type None = none
maybe_type (Some k) = some (type_of_kind k)

-- the type of the column of this number, by the set of those that hold words
abbrev pub col_type_at : ℕ → ℕ → ℕ → Option Ty
col_type_at bits width i = cond (nat_lt i width) (some (cond (has bits i) t_word t_num)) none

-- is a type that of words
abbrev pub is_word : Ty → Bool
is_word t_num = false
is_word t_word = true

-- a set of width columns that has those of the columns cs that hold words
pub record WordColumns (bits width : ℕ) (cs : List Col) : Type 0 where
  pub wide : length cs ≡ width
  pub words : (k : ℕ) (c : Col) → nth cs k ≡ some c → has bits k ≡ is_word c.ty

-- r is the value on a row of every expression that the code in words ws stands for
abbrev pub Evaluated : List ℕ → List ℕ → Value → Type 0
Evaluated ws row r = (cs : List Col) (e : Expr) → code_in ws ≡ code_for cs e → length row ≡ length cs → value_of r ≡ eval cs (row_of row) e

-- r is the type, if any, of every expression that the code in words ws stands for
abbrev pub TypeFound : List ℕ → ℕ → ℕ → Given Kind → Type 0
TypeFound ws bits width r = (cs : List Col) (e : Expr) → code_in ws ≡ code_for cs e → WordColumns bits width cs → maybe_type r ≡ type_of cs e
