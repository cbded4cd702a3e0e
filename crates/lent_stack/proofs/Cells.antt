-- Values and their cells.
use Rattle.std.proofs.Common.{◌≡◌, ℕ, ◌-◌, ◌<◌, ◌≤◌, cond, ltb, refl, ap, sym, ◌∙◌, subst, arith}
use Rattle.std.proofs.Math.Bridge.{le_prop}
use Rattle.std.proofs.Math.Decide.{dec_lt}
use Rattle.std.proofs.lemmas.Bool.{lt-ltb, le-ltb}
use Rattle.meaning.specs.Values.{null, word, num_limit, word_limit}
use Rattle.values.specs.Cells.{from_cell}
use Rattle.values.specs.Types.{value_of}
use Rattle.values.specs.declared.number.Number.{Number as N}
use Rattle.values.specs.declared.word.Word.{Word as W}
use Rattle.values.specs.declared.types.Value.{Value}
use Rattle.values.specs.declared.types.Value.TheVariants.{Null, Number, Word}
use Rattle.lent_stack.specs.Items.{value_in}

same_number : (m n : N) → m.value ≡ n.value → m ≡ n
same_number m n e =
    subst (λ k. (h : k < num_limit) → m ≡ record { value = k; below = h }) e
    (λ h. ap (λ (l : m.value < num_limit). record { value = m.value; below = l }) (le_prop m.below h)) n.below

same_word : (m n : W) → m.number ≡ n.number → m ≡ n
same_word m n e =
    subst (λ k. (h : k < word_limit) → m ≡ record { number = k; below = h }) e
    (λ h. ap (λ (l : m.number < word_limit). record { number = m.number; below = l }) (le_prop m.below h)) n.below

-- values that mean the same are the same
same_meaning : (v w : Value) → value_of v ≡ value_of w → v ≡ w
same_meaning Null Null h = refl
same_meaning Null (Number n) h = cc
same_meaning Null (Word n) h = cc
same_meaning (Number m) Null h = cc
same_meaning (Number m) (Number n) h = let e : m.value ≡ n.value = cc in ap Number (same_number m n e)
same_meaning (Number m) (Word n) h = cc
same_meaning (Word m) Null h = cc
same_meaning (Word m) (Number n) h = cc
same_meaning (Word m) (Word n) h = let e : m.number ≡ n.number = cc in ap Word (same_word m n e)

value_of-value_in : (w : ℕ) → value_of (value_in w) ≡ from_cell w
value_of-value_in w =
    elim (dec_lt w num_limit) as (λ d. value_of (elim d [ yes h ↦ Number (record { value = w; below = h }) | no h ↦ elim (dec_lt (w - num_limit) word_limit) [ yes k ↦ Word (record { number = w - num_limit; below = k }) | no k ↦ Null ] ]) ≡ from_cell w) [
      | yes h ↦ rw (lt-ltb _ _ h) refl
      | no h ↦ let l : num_limit ≤ w = omega arith in rw (le-ltb _ _ l) (
          elim (dec_lt (w - num_limit) word_limit) as (λ d. value_of (elim d [ yes k ↦ Word (record { number = w - num_limit; below = k }) | no k ↦ Null ]) ≡ cond (ltb (w - num_limit) word_limit) (word (w - num_limit)) null) [
            | yes k ↦ rw (lt-ltb _ _ k) refl
            | no k ↦ let l : word_limit ≤ w - num_limit = omega arith in rw (le-ltb _ _ l) refl
          ])
    ]

-- the value that a cell means is the value in it
pub value_of_cell : (v : Value) (w : ℕ) → value_of v ≡ from_cell w → v ≡ value_in w
value_of_cell v w h = same_meaning v (value_in w) (h ∙ sym (value_of-value_in w))
