-- Code put into words.
use Rattle.std.proofs.Common.{◌≡◌, ℕ, zero, suc, ◌+◌, ◌*◌, ◌/◌, ◌<◌, ◌≤◌, ◌≢◌, List, [], ◌∷◌, ◌++◌, length, get_or, take, set, sym, refl, ap, ◌∙◌, ap₂, append_assoc, arith, length-set, length-take, get_or-set_other, get_or-set_same}
use Rattle.std.proofs.Math.Seq.{take-suc}
use Rattle.code.specs.Postfix.{Instr}
use Rattle.code.specs.Words.{unpacked, instruction_at, unpack_all, code_in}
use Rattle.code.specs.Written.{Written as Held}
use Rattle.code.proofs.InWords.{first_length}

unpack_append : (n : ℕ) (xs : List ℕ) (t a : ℕ) → length xs ≡ 2 * n → unpack_all (xs ++ (t ∷ (a ∷ []))) ≡ unpack_all xs ++ (unpacked t a ∷ [])
unpack_append zero [] t a h = refl
unpack_append zero (x ∷ xs) t a h = absurd (omega arith)
unpack_append (suc n) [] t a h = absurd (omega arith)
unpack_append (suc n) (x ∷ []) t a h = absurd (omega arith)
unpack_append (suc n) (x ∷ (y ∷ xs)) t a h = ap (λ c. unpacked x y ∷ c) (unpack_append n xs t a (omega arith))

-- the first instructions, and one more
one_more : (ws : List ℕ) (n : ℕ) → 2 * n + 2 ≤ length ws → code_in (take (2 * (n + 1)) ws) ≡ code_in (take (2 * n) ws) ++ (instruction_at ws n ∷ [])
unfolding code_in
one_more ws n h =
    let k : 2 * (n + 1) ≡ suc (2 * n + 1) = omega arith in
    let m : 2 * n + 1 ≡ suc (2 * n) = omega arith in
    let t = get_or ws (2 * n) 0 in
    let a = get_or ws (2 * n + 1) 0 in
    let two : take (2 * n + 1) ws ≡ take (2 * n) ws ++ (t ∷ []) = ap (λ j. take j ws) m ∙ take-suc ws (2 * n) 0 (omega arith) in
    let both : take (2 * (n + 1)) ws ≡ take (2 * n + 1) ws ++ (a ∷ []) = ap (λ j. take j ws) k ∙ take-suc ws (2 * n + 1) 0 (omega arith) in
    ap unpack_all (both ∙ (ap (λ r. r ++ (a ∷ [])) two ∙ append_assoc (take (2 * n) ws) (t ∷ []) (a ∷ []))) ∙ unpack_append n (take (2 * n) ws) t a (simp length-take (omega arith))

-- the same instructions are the same code
same_code : (ws vs : List ℕ) (n : ℕ) → 2 * n ≤ length ws → length vs ≡ length ws → ((k : ℕ) → k < n → instruction_at vs k ≡ instruction_at ws k) → code_in (take (2 * n) vs) ≡ code_in (take (2 * n) ws)
same_code ws vs zero h l s = refl
same_code ws vs (suc n) h l s =
    let e : suc n ≡ n + 1 = omega arith in
    ap (λ j. code_in (take (2 * j) vs)) e ∙ (one_more vs n (omega arith) ∙ (ap₂ (λ c i. c ++ (i ∷ [])) (same_code ws vs n (omega arith) l (λ k q. s k (omega arith))) (s n (omega arith)) ∙ sym (ap (λ j. code_in (take (2 * j) ws)) e ∙ one_more ws n (omega arith))))

pub written : (ws vs : List ℕ) (n : ℕ) (i : Instr ℕ) → 2 * n + 2 ≤ length ws → length vs ≡ length ws → instruction_at vs n ≡ i → ((k : ℕ) → k ≢ n → instruction_at vs k ≡ instruction_at ws k) → code_in (take (2 * (n + 1)) vs) ≡ code_in (take (2 * n) ws) ++ (i ∷ [])
written ws vs n i h l e s = one_more vs n (omega arith) ∙ ap₂ (λ c j. c ++ (j ∷ [])) (same_code ws vs n (omega arith) l (λ k q. s k (omega arith))) e

-- an instruction in the place of another
pub stored : (ws : List ℕ) (i t a : ℕ) → i < length ws / 2 → instruction_at (set (set ws (2 * i) t) (2 * i + 1) a) i ≡ unpacked t a
stored ws i t a h =
    ap₂ unpacked
    (get_or-set_other (set ws (2 * i) t) (2 * i + 1) (2 * i) a 0 (omega arith) ∙ get_or-set_same ws (2 * i) t 0 (omega arith))
    (get_or-set_same (set ws (2 * i) t) (2 * i + 1) a 0 (simp length-set (omega arith)))

kept : (ws : List ℕ) (i k t a : ℕ) → k ≢ 2 * i → k ≢ 2 * i + 1 → get_or (set (set ws (2 * i) t) (2 * i + 1) a) k 0 ≡ get_or ws k 0
kept ws i k t a p q = get_or-set_other (set ws (2 * i) t) (2 * i + 1) k a 0 q ∙ get_or-set_other ws (2 * i) k t 0 p

pub others : (ws : List ℕ) (i t a k : ℕ) → k ≢ i → instruction_at (set (set ws (2 * i) t) (2 * i + 1) a) k ≡ instruction_at ws k
others ws i t a k h = ap₂ unpacked (kept ws i (2 * k) t a (omega arith) (omega arith)) (kept ws i (2 * k + 1) t a (omega arith) (omega arith))

-- an operation and its operand put behind the first instructions
pub written_words : (ws : List ℕ) (n t a : ℕ) (i : Instr ℕ) → 2 * n + 2 ≤ length ws → unpacked t a ≡ i → code_in (take (2 * (n + 1)) (set (set ws (2 * n) t) (2 * n + 1) a)) ≡ code_in (take (2 * n) ws) ++ (i ∷ [])
written_words ws n t a i h e = written ws (set (set ws (2 * n) t) (2 * n + 1) a) n i h (length-set (set ws (2 * n) t) (2 * n + 1) a ∙ length-set ws (2 * n) t) (stored ws n t a (omega arith) ∙ e) (λ k q. others ws n t a k q)

-- there is room for one more
pub room_left : (ws : List ℕ) (n : ℕ) (v : Held) → record { instructions = code_in (take (2 * n) ws); size = length ws } ≡ v → 2 * n ≤ length ws → 2 * length v.instructions + 2 ≤ v.size → 2 * n + 2 ≤ length ws
room_left ws n v e b h =
    let l = first_length ws n b in
    let i = ap (λ s. length s.instructions) e in
    let s = ap (λ s. s.size) e in omega arith
