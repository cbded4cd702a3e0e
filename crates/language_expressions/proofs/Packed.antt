-- Marks in words.
use Rattle.std.proofs.Common.{◌≡◌, ℕ, ◌+◌, ◌*◌, ◌/◌, ◌%◌, ◌<◌, refl, arith}
use Rattle.values.specs.declared.types.Operator.{Operator}
use Rattle.code.specs.Operators.{operator_in}
use Rattle.language_expressions.specs.Marks.{mark_in, mark_of}

-- a kind below 16, with an operator above
pub packed : (n k : ℕ) (o : Operator) → operator_in n ≡ o → k < 16 → mark_in (16 * n + k) ≡ mark_of k o
packed n k o e l =
    let a : (16 * n + k) % 16 ≡ k = omega arith in
    let b : (16 * n + k) / 16 ≡ n = omega arith in
    rw (a, b, e) refl
