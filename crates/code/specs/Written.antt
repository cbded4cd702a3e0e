-- What code in lent words holds.
use Rattle.std.specs.Prelude.{ℕ, List}
use Rattle.code.specs.Postfix.{Instr}

-- the instructions written so far, and how many words there are for code
pub record Written : Type 0 where
  pub instructions : List (Instr ℕ)
  pub size : ℕ
