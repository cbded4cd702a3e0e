-- A text cut into lines.
use Rattle.std.proofs.Common.{◌≡◌, ℕ, zero, suc, ◌+◌, ◌-◌, ◌<◌, ◌≤◌, Bool, true, false, not, ltb, cond, List, [], ◌∷◌, ◌++◌, length, get_or, take, drop, Some, None, Option as Given, Bor, ◌==◌, sym, refl, ap, ◌∙◌, arith, append_assoc, append-nil, eq-eqb}
use Rattle.std.specs.Option.{unwrap_or}
use Rattle.std.specs.List.{prefix_len, position}
use Rattle.std.proofs.lemmas.List.{take_rest, drop_more, drop_all}
use Rattle.std.proofs.lemmas.List.Sums.{sum_by-cons}
use Rattle.std.proofs.lemmas.Bool.{ltb-true, ltb-false}
use Rattle.std.specs.Iterator.{Yields, SkipsThenYields}
use Rattle.meaning.specs.Text.{lines_of}
use Rattle.language_pieces.specs.Pieces.{cuts}
use Rattle.language_pieces.specs.Pieces.{none_left}
use Rattle.language.specs.Lines.{is_newline, numbered, later, lines_left, left_in, line_at, NextLine}
use Rattle.language.specs.Questions.{newlines}
use Rattle.language.specs.declared.lines.Lines.{Lines}

not_newline : ℕ → Bool
not_newline byte = not (is_newline byte)

-- how long the first line is
first_size : List ℕ → ℕ
first_size s = prefix_len not_newline s

cut_at : (begun s : List ℕ) → first_size s < length s → lines_of begun s ≡ (begun ++ take (first_size s) s) ∷ lines_of [] (drop (first_size s + 1) s)
unfolding first_size not_newline
cut_at begun [] h = absurd (omega arith)
cut_at begun (b ∷ s) h = by (is_newline b) h (cut_at (begun ++ b ∷ []) s)
  where
    by : (t : Bool) → cond (not t) (1 + prefix_len not_newline s) 0 < length (b ∷ s) → (prefix_len not_newline s < length s → lines_of (begun ++ b ∷ []) s ≡ ((begun ++ b ∷ []) ++ take (prefix_len not_newline s) s) ∷ lines_of [] (drop (prefix_len not_newline s + 1) s)) → cond t (begun ∷ lines_of [] s) (lines_of (begun ++ b ∷ []) s) ≡ (begun ++ take (cond (not t) (1 + prefix_len not_newline s) 0) (b ∷ s)) ∷ lines_of [] (drop (cond (not t) (1 + prefix_len not_newline s) 0 + 1) (b ∷ s))
    by true k f = ap (λ l. l ∷ lines_of [] s) (sym (append-nil begun))
    by false k f =
        let e : 1 + prefix_len not_newline s ≡ suc (prefix_len not_newline s) = omega arith in
        let d : suc (prefix_len not_newline s) + 1 ≡ suc (prefix_len not_newline s + 1) = omega arith in
        f (omega arith) ∙ (ap (λ l. l ∷ lines_of [] (drop (prefix_len not_newline s + 1) s)) (append_assoc begun (b ∷ []) (take (prefix_len not_newline s) s)) ∙ rw (e, d) refl)

last_at : (begun s : List ℕ) → length s ≤ first_size s → lines_of begun s ≡ (begun ++ s) ∷ []
unfolding first_size not_newline
last_at begun [] h = ap (λ l. l ∷ []) (sym (append-nil begun))
last_at begun (b ∷ s) h = by (is_newline b) h (last_at (begun ++ b ∷ []) s)
  where
    by : (t : Bool) → length (b ∷ s) ≤ cond (not t) (1 + prefix_len not_newline s) 0 → (length s ≤ prefix_len not_newline s → lines_of (begun ++ b ∷ []) s ≡ ((begun ++ b ∷ []) ++ s) ∷ []) → cond t (begun ∷ lines_of [] s) (lines_of (begun ++ b ∷ []) s) ≡ (begun ++ b ∷ s) ∷ []
    by true k f = absurd (omega arith)
    by false k f = f (omega arith) ∙ ap (λ l. l ∷ []) (append_assoc begun (b ∷ []) s)

some_of : (b : Bool) (i n : ℕ) → Some n ≡ cond b (Some i) None → (b ≡ true) × (n ≡ i)
some_of true i n e = let q : n ≡ i = cc in (refl, q)
some_of false i n e = let z : ◌≡◌ {A = ℕ} 0 1 = cc in absurd (omega arith)

none_of : (b : Bool) (i : ℕ) → None ≡ cond b (Some i) None → b ≡ false
none_of true i e = let z : ◌≡◌ {A = ℕ} 0 1 = cc in absurd (omega arith)
none_of false i e = refl

newline_at : (s : List ℕ) (n : ℕ) → Some n ≡ position is_newline s → (first_size s < length s) × (n ≡ first_size s)
unfolding first_size not_newline
newline_at s n e = let q = some_of (ltb (first_size s) (length s)) (first_size s) n e in (ltb-true (first_size s) (length s) q.0, q.1)

pub newline_within : (s : List ℕ) (n : ℕ) → Some n ≡ position is_newline s → n < length s
newline_within s n e = let q = newline_at s n e in omega (arith, q.0, q.1)

pub line_cut : (s : List ℕ) (n : ℕ) → Some n ≡ position is_newline s → lines_of [] s ≡ take n s ∷ lines_of [] (take (length s - (n + 1)) (drop (n + 1) s))
line_cut s n e = let q = newline_at s n e in rw (take_rest s (n + 1), q.1) (cut_at [] s q.0)

pub line_last : (s : List ℕ) → None ≡ position is_newline s → lines_of [] s ≡ s ∷ []
unfolding first_size not_newline
line_last s e = last_at [] s (ltb-false (first_size s) (length s) (none_of (ltb (first_size s) (length s)) (first_size s) e))

-- the same at a place before which no newline stands
pub line_cut_at : (s : List ℕ) (i : ℕ) → i < length s → get_or s i 0 ≡ 10 → lines_of [] s ≡ lines_of (take i s) (drop i s) → lines_of [] s ≡ take i s ∷ lines_of [] (drop (i + 1) s)
line_cut_at s i h n e = e ∙ (ap (lines_of (take i s)) (drop_more s i 0 h) ∙ ap (λ b. cond b (take i s ∷ lines_of [] (drop (i + 1) s)) (lines_of (take i s ++ (get_or s i 0 ∷ [])) (drop (i + 1) s))) (eq-eqb (get_or s i 0) 10 n))

pub line_last_at : (s : List ℕ) (i : ℕ) → length s ≤ i → lines_of [] s ≡ lines_of (take i s) (drop i s) → lines_of [] s ≡ take i s ∷ []
line_last_at s i h e = e ∙ ap (lines_of (take i s)) (drop_all i s h)

-- newlines are counted byte by byte
pub no_newlines : newlines [] ≡ 0
no_newlines = refl

pub newlines_first : (byte : ℕ) (s : List ℕ) → newlines (byte ∷ s) ≡ cond (byte == 10) 1 0 + newlines s
newlines_first byte s = sum_by-cons (λ b. cond (is_newline b) 1 0) byte s

fill_one : (n : ℕ) (s : List ℕ) (ss : List (List ℕ)) → none_left (cuts s) ≡ false → numbered later n (s ∷ ss) ≡ record { number = later n; bytes = s } ∷ numbered later (later n) ss
fill_one n s ss e = rw e

fill_none : (n : ℕ) (s : List ℕ) (ss : List (List ℕ)) → none_left (cuts s) ≡ true → numbered later n (s ∷ ss) ≡ numbered later (later n) ss
fill_none n s ss e = rw e

pub line_passed : (a b : Lines) (s : List ℕ) → lines_left a ≡ s ∷ lines_left b → b.number ≡ later a.number → none_left (cuts s) ≡ true → left_in a ≡ left_in b
unfolding left_in
line_passed a b s e n f = ap (numbered later a.number) e ∙ (fill_none a.number s (lines_left b) f ∙ ap (λ k. numbered later k (lines_left b)) (sym n))

pub line_found : (a b : Lines) (s t : List ℕ) → lines_left a ≡ s ∷ lines_left b → b.number ≡ later a.number → none_left (cuts s) ≡ false → t ≡ s → left_in a ≡ record { number = b.number; bytes = t } ∷ left_in b
unfolding left_in
line_found a b s t e n f g =
    ap (numbered later a.number) e ∙ (fill_one a.number s (lines_left b) f ∙ (ap (λ k. record { number = k; bytes = s } ∷ numbered later k (lines_left b)) (sym n) ∙ ap (λ x. record { number = b.number; bytes = x } ∷ numbered later b.number (lines_left b)) (sym g)))

pub lines_over : (a : Lines) → lines_left a ≡ [] → left_in a ≡ []
unfolding left_in
lines_over a e = ap (numbered later a.number) e

-- the line behind so many others
pub first_line : (ss : List (List ℕ)) (n : ℕ) (s : List ℕ) (more : List (List ℕ)) → drop n ss ≡ s ∷ more → line_at ss n ≡ s
first_line [] zero s more e = absurd (omega (arith, ap length e))
first_line [] (suc n) s more e = absurd (omega (arith, ap length e))
first_line (x ∷ ss) zero s more e = let q : x ≡ s = cc in q
first_line (x ∷ ss) (suc n) s more e = first_line ss n s more e

pub no_line : (ss : List (List ℕ)) (k n : ℕ) → k ≤ n → drop k ss ≡ [] → line_at ss n ≡ []
no_line [] k n h e = refl
no_line (x ∷ ss) zero n h e = absurd (omega (arith, ap length e))
no_line (x ∷ ss) (suc k) zero h e = absurd (omega arith)
no_line (x ∷ ss) (suc k) (suc n) h e = no_line ss k n (omega arith) e

-- lines that were taken, and those that are left
taken : (a b : Lines) (xs : List (Bor (List ℕ))) → Yields NextLine a xs b → drop (length xs) (lines_left a) ≡ lines_left b
taken a b [] e = ap lines_left e
taken a b (x ∷ xs) (j, h, k) = ap (drop (suc (length xs))) h.0 ∙ taken j b xs k

-- what nth gives is the line behind so many others, or there are fewer
pub nth_line : (a b : Lines) (n : ℕ) (r : Given (Bor (List ℕ))) (none : Bor (List ℕ)) → SkipsThenYields NextLine a n r b → none.now ≡ [] → (unwrap_or r none).now ≡ line_at (lines_left a) n
nth_line a b n None none (xs, (t, h, k), m) e = e ∙ sym (no_line (lines_left a) (length xs) n m (taken a t xs h ∙ k.0))
nth_line a b n (Some v) none (xs, (t, h, k), m) e = sym (first_line (lines_left a) n v.now (lines_left b) (ap (λ i. drop i (lines_left a)) (sym m) ∙ (taken a t xs h ∙ k.0)))
