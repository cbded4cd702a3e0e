-- Quotes stay on one line.
use Rattle.std.proofs.Common.{◌≡◌, ℕ, ◌/◌, ◌%◌, ◌<◌, true, false, cond, List, [], ◌∷◌, ◌++◌, get_or, suc, codes, refl, arith, rules, tests}
use Rattle.std.specs.Bool.{IsTrue}
use Rattle.std.specs.List.{flat_map, list_all}
use Rattle.std.proofs.lemmas.List.Folds.{list_all-append}
use Rattle.std.proofs.lemmas.Grind.{common_steps}
use Rattle.messages.specs.Quotes.{hex_digit, one_line, prints, quoted, quoted_byte}

pub digit_prints : (d : ℕ) → d < 16 → prints (hex_digit d) ≡ true
digit_prints d small = grind (arith, common_steps)

pub byte_prints : (b : ℕ) → b < 256 → one_line (quoted_byte b) ≡ true
byte_prints b small =
    let high : prints (hex_digit (b / 16)) ≡ true = digit_prints (b / 16) (omega arith) in
    let low : prints (hex_digit (b % 16)) ≡ true = digit_prints (b % 16) (omega arith) in
    elim (prints b) as (λ t. prints b ≡ t → list_all prints (cond t (b ∷ []) (codes "\\x" ++ (hex_digit (b / 16) ∷ hex_digit (b % 16) ∷ []))) ≡ true) [
      | true ↦ λ e. rw e refl
      | false ↦ λ e. rw (high, low) refl
    ] refl

all_print : (bytes : List ℕ) → ((i : ℕ) → get_or bytes i 0 < 256) → list_all prints (flat_map quoted_byte bytes) ≡ true
all_print [] small = refl
all_print (b ∷ bytes) small =
    let first = byte_prints b (small 0) in
    let others = all_print bytes (λ i. small (suc i)) in
    rw (list_all-append prints (quoted_byte b) (flat_map quoted_byte bytes), first, others) refl

pub quoted_prints : (bytes : List ℕ) → ((i : ℕ) → get_or bytes i 0 < 256) → one_line (quoted bytes) ≡ true
quoted_prints bytes small = rw (list_all-append prints (flat_map quoted_byte bytes) (codes "'"), all_print bytes small) refl

-- a message that quotes bytes stays on one line
pub quote_prints : (name bytes message : List ℕ) → ((i : ℕ) → get_or name i 0 < 256) → bytes ≡ name → message ≡ quoted bytes → IsTrue (one_line message)
quote_prints name bytes message small same is = rw (is, same) (quoted_prints name small)

-- bytes that all print are written as they are
pub printed : (bytes : List ℕ) → one_line bytes ≡ true → flat_map quoted_byte bytes ≡ bytes
printed [] all = refl
printed (b ∷ bytes) all =
    let first : prints b ≡ true = search (rules, tests) in
    let others : one_line bytes ≡ true = search (rules, tests) in
    rw (first, printed bytes others) refl
