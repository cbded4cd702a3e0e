-- The instructions in words, one after the other.
use Rattle.std.proofs.Common.{◌≡◌, ℕ, ◌*◌, ◌/◌, ◌<◌, ◌≤◌, List, [], ◌∷◌, length, get_or, take, drop, refl, arith, length-take}
use Rattle.code.specs.Words.{unpacked, unpack_all, code_in}

-- code in fewer than two words, and in more
pub short_code : (ws : List ℕ) → length ws < 2 → code_in ws ≡ []
unfolding code_in
short_code [] h = refl
short_code (t ∷ []) h = refl
short_code (t ∷ (a ∷ ws)) h = absurd (omega arith)

pub first_code : (ws : List ℕ) → 2 ≤ length ws → code_in ws ≡ unpacked (get_or ws 0 0) (get_or ws 1 0) ∷ code_in (drop 2 ws)
unfolding code_in
first_code [] h = absurd (omega arith)
first_code (t ∷ []) h = absurd (omega arith)
first_code (t ∷ (a ∷ ws)) h = refl

-- an instruction for every two words
pub code_in_length : (ws : List ℕ) → length (code_in ws) ≡ length ws / 2
unfolding code_in
code_in_length [] = refl
code_in_length (t ∷ []) = refl
code_in_length (t ∷ (a ∷ ws)) = let h : length (unpack_all ws) ≡ length ws / 2 = code_in_length ws in omega arith

-- the first n of them
pub first_length : (ws : List ℕ) (n : ℕ) → 2 * n ≤ length ws → length (code_in (take (2 * n) ws)) ≡ n
first_length ws n h =
    let l : length (take (2 * n) ws) ≡ 2 * n = simp length-take (omega arith) in
    let c = code_in_length (take (2 * n) ws) in omega arith
