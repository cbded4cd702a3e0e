-- The cutting of a line.
use Rattle.std.proofs.Common.{◌≡◌, ℕ, suc, ◌+◌, ◌-◌, ◌<◌, ◌≤◌, true, false, not, eqb, List, [], ◌∷◌, ◌++◌, Some, None, length, get_or, take, drop, sym, refl, ap, subst, ◌∙◌, add_assoc, append_assoc, append-nil, add-zero, one-add, arith, length-append, length-drop}
use borrow.Author.Tests.{ltb-true}
use Rattle.std.proofs.lemmas.Option.{cond_some}
use Rattle.std.proofs.lemmas.Grind.{common_steps}
use Rattle.std.proofs.lemmas.List.{drop_all, drop-drop, get_or-drop}
use Rattle.std.proofs.lemmas.List.Sums.{prefix_len_stops}
use Rattle.std.specs.List.{prefix_len, position}
use Rattle.meaning.specs.Base.{Bytes}
use Rattle.meaning.specs.Text.{is_word_byte, is_blank, CutState, between, inside_word, inside_quotes, half_sign, in_note, next_byte, cut_line, tail_pieces}
use Rattle.language_pieces.specs.Pieces.{cuts, is_half, IsEndOf}

pub unread_none : (bs : List ℕ) → cut_line in_note bs ≡ []
unread_none [] = refl
unread_none (b ∷ bs) = unread_none bs

-- by the first byte
pub cut_blank : (b : ℕ) (bs : List ℕ) → is_blank b ≡ true → cut_line between (b ∷ bs) ≡ cut_line between bs
cut_blank b bs e = rw e

pub cut_word : (b : ℕ) (bs : List ℕ) → is_blank b ≡ false → eqb b 35 ≡ false → is_word_byte b ≡ true → cut_line between (b ∷ bs) ≡ cut_line (inside_word (b ∷ [])) bs
cut_word b bs e d c = rw (e, d, c)

pub cut_quote : (b : ℕ) (bs : List ℕ) → is_blank b ≡ false → eqb b 35 ≡ false → is_word_byte b ≡ false → eqb b 39 ≡ true → cut_line between (b ∷ bs) ≡ cut_line (inside_quotes (b ∷ [])) bs
cut_quote b bs e d c a = rw (e, d, c, a)

-- inside
pub cut_word_on : (w : Bytes) (b : ℕ) (bs : List ℕ) → is_word_byte b ≡ true → cut_line (inside_word w) (b ∷ bs) ≡ cut_line (inside_word (w ++ (b ∷ []))) bs
cut_word_on w b bs e = rw e

pub cut_word_end : (w : Bytes) (b : ℕ) (bs : List ℕ) → is_word_byte b ≡ false → cut_line (inside_word w) (b ∷ bs) ≡ w ∷ cut_line between (b ∷ bs)
cut_word_end w b bs e = grind arith

-- runs of bytes of a kind
drop_next : (n b : ℕ) (bs : List ℕ) → drop (1 + n) (b ∷ bs) ≡ drop n bs
drop_next n b bs = rw one-add refl

take_next : (n b : ℕ) (bs : List ℕ) → take (1 + n) (b ∷ bs) ≡ b ∷ take n bs
take_next n b bs = rw one-add refl

pub blanks_behind : (s : List ℕ) → cuts (drop (prefix_len is_blank s) s) ≡ cuts s
unfolding cuts
blanks_behind [] = refl
blanks_behind (b ∷ bs) = grind (arith, drop_next (prefix_len is_blank bs) b bs, cut_blank b bs, blanks_behind bs)

word_run : (w : Bytes) (bs : List ℕ) → cut_line (inside_word w) bs ≡ (w ++ take (prefix_len is_word_byte bs) bs) ∷ cuts (drop (prefix_len is_word_byte bs) bs)
unfolding cuts
word_run w [] = grind (arith, append-nil)
word_run w (b ∷ bs) = grind (arith, drop_next (prefix_len is_word_byte bs) b bs, take_next (prefix_len is_word_byte bs) b bs, cut_word_on w b bs, cut_word_end w b bs, append-nil, append_assoc w (b ∷ []), word_run (w ++ (b ∷ [])) bs)

pub word_cut : (s : List ℕ) → 0 < length s → is_blank (get_or s 0 0) ≡ false → eqb (get_or s 0 0) 35 ≡ false → is_word_byte (get_or s 0 0) ≡ true → cuts s ≡ take (prefix_len is_word_byte s) s ∷ cuts (drop (prefix_len is_word_byte s) s)
unfolding cuts
word_cut [] h e d c = absurd (omega arith)
word_cut (b ∷ bs) h e d c = grind (arith, drop_next, take_next, cut_word b bs, word_run (b ∷ []) bs)

quote_closed : (w : Bytes) (bs : List ℕ) → prefix_len (λ b. not (eqb b 39)) bs < length bs → cut_line (inside_quotes w) bs ≡ (w ++ take (prefix_len (λ b. not (eqb b 39)) bs) bs) ∷ cuts (drop (prefix_len (λ b. not (eqb b 39)) bs + 1) bs)
unfolding cuts
quote_closed w [] h = absurd (omega arith)
quote_closed w (b ∷ bs) h = grind (arith, drop_next, take_next (prefix_len (λ b. not (eqb b 39)) bs) b bs, add_assoc, append-nil, append_assoc w (b ∷ []), quote_closed (w ++ (b ∷ [])) bs)

quote_unclosed : (w : Bytes) (bs : List ℕ) → length bs ≤ prefix_len (λ b. not (eqb b 39)) bs → cut_line (inside_quotes w) bs ≡ (39 ∷ []) ∷ (39 ∷ []) ∷ []
quote_unclosed w [] h = refl
quote_unclosed w (b ∷ bs) h = grind (arith, one-add, quote_unclosed (w ++ (b ∷ [])) bs)

-- a line that ends inside quotes
pub quote_open : (s : List ℕ) (i : ℕ) → length s ≤ i → cuts s ≡ cut_line (inside_quotes (take i s)) (drop i s) → cuts s ≡ (39 ∷ []) ∷ (39 ∷ []) ∷ []
quote_open s i h q = q ∙ ap (cut_line (inside_quotes (take i s))) (drop_all i s h)

pub quote_cut : (s : List ℕ) (n : ℕ) → 0 < length s → get_or s 0 0 ≡ 39 → position (λ b. eqb b 39) (drop 1 s) ≡ Some n → cuts s ≡ take (n + 1) s ∷ cuts (drop (n + 2) s)
unfolding cuts
quote_cut [] n h e q = absurd (omega arith)
quote_cut (b ∷ bs) n h e q = let p = cond_some _ _ _ q in let e2 : b ≡ 39 = e in let z : n + 2 ≡ suc (prefix_len (λ b. not (eqb b 39)) bs + 1) = omega (arith, p.1) in let y : n + 1 ≡ suc (prefix_len (λ b. not (eqb b 39)) bs) = omega (arith, p.1) in rw (e2, z, y) (quote_closed (39 ∷ []) bs (ltb-true _ _ p.0))

pub quote_no_cut : (s : List ℕ) → 0 < length s → get_or s 0 0 ≡ 39 → position (λ b. eqb b 39) (drop 1 s) ≡ None → cuts s ≡ (39 ∷ []) ∷ (39 ∷ []) ∷ []
unfolding cuts
quote_no_cut [] h e q = absurd (omega arith)
quote_no_cut (b ∷ bs) h e q = grind (arith, quote_unclosed (39 ∷ []) bs)

pub two_signs : (s : List ℕ) → 1 < length s → is_blank (get_or s 0 0) ≡ false → eqb (get_or s 0 0) 35 ≡ false → is_word_byte (get_or s 0 0) ≡ false → eqb (get_or s 0 0) 39 ≡ false → is_half (get_or s 0 0) ≡ true → get_or s 1 0 ≡ 61 → cuts s ≡ take 2 s ∷ cuts (drop 2 s)
unfolding cuts
two_signs [] l e d c a h k = absurd (omega arith)
two_signs (b ∷ []) l e d c a h k = absurd (omega arith)
two_signs (b ∷ (x ∷ bs)) l e d c a h k = grind arith

pub one_sign : (s : List ℕ) → 0 < length s → is_blank (get_or s 0 0) ≡ false → eqb (get_or s 0 0) 35 ≡ false → is_word_byte (get_or s 0 0) ≡ false → eqb (get_or s 0 0) 39 ≡ false → (is_half (get_or s 0 0) ≡ true → 1 < length s → eqb (get_or s 1 0) 61 ≡ false) → cuts s ≡ take 1 s ∷ cuts (drop 1 s)
unfolding cuts
one_sign [] l e d c a h = absurd (omega arith)
one_sign (b ∷ []) l e d c a h = grind arith
one_sign (b ∷ (x ∷ bs)) l e d c a h = grind arith

pub note_none : (s : List ℕ) → 0 < length s → is_blank (get_or s 0 0) ≡ false → get_or s 0 0 ≡ 35 → cuts s ≡ []
unfolding cuts
note_none [] l e d = absurd (omega arith)
note_none (b ∷ bs) l e d = grind (arith, unread_none bs)

pub cuts_none : (s : List ℕ) → length s ≡ 0 → cuts s ≡ []
unfolding cuts
cuts_none [] h = refl
cuts_none (b ∷ bs) h = absurd (omega arith)

-- there are at most as many pieces as bytes, and one
pend : CutState → ℕ
pend between = 1
pend (inside_word w) = 2
pend (inside_quotes w) = 2
pend (half_sign s) = 2
pend in_note = 1

next_few : (a : CutState) (b : ℕ) → length (next_byte a b).pieces + pend (next_byte a b).state ≤ 1 + pend a
unfolding pend
next_few between b = grind arith
next_few (inside_word w) b = grind arith
next_few (inside_quotes w) b = grind arith
next_few (half_sign s) b = grind arith
next_few in_note b = grind arith

cut_few : (a : CutState) (s : List ℕ) → length (cut_line a s) ≤ length s + pend a
unfolding pend
cut_few between [] = omega arith
cut_few (inside_word w) [] = omega arith
cut_few (inside_quotes w) [] = omega arith
cut_few (half_sign s) [] = omega arith
cut_few in_note [] = omega arith
cut_few a (b ∷ bs) = omega (arith, next_few a b, cut_few (next_byte a b).state bs, length-append (next_byte a b).pieces (cut_line (next_byte a b).state bs))

pub cuts_few : (s : List ℕ) → length (cuts s) ≤ length s + 1
unfolding cuts pend
cuts_few s = cut_few between s

-- ends of a line
pub is_end : (s : List ℕ) (n : ℕ) → IsEndOf (drop n s) s
is_end s n = grind (arith, common_steps, length-drop, drop_all)

pub drop_cut : (s piece rest : List ℕ) (n : ℕ) → rest ≡ drop n s → cuts s ≡ piece ∷ cuts (drop n s) → (cuts s ≡ piece ∷ cuts rest) × IsEndOf rest s
drop_cut s piece rest n e q = rw e (q, is_end s n)

pub end_of_end : (line s rest : List ℕ) (a : ℕ) → s ≡ drop a line → IsEndOf rest s → IsEndOf rest line
end_of_end line s rest a e h = let q : rest ≡ drop (a + (length s - length rest)) line = h ∙ (ap (drop (length s - length rest)) e ∙ drop-drop (length s - length rest) a line) in subst (λ t. IsEndOf t line) (sym q) (is_end line (a + (length s - length rest)))

pub drop_head : (s : List ℕ) (n : ℕ) → get_or (drop n s) 0 0 ≡ get_or s n 0
drop_head s n = get_or-drop n s 0 0 ∙ ap (λ k. get_or s k 0) (add-zero n)

pub blanks_stop : (s : List ℕ) → 0 < length (drop (prefix_len is_blank s) s) → is_blank (get_or (drop (prefix_len is_blank s) s) 0 0) ≡ false
blanks_stop s h = rw drop_head (prefix_len_stops is_blank s 0 (omega (arith, length-drop (prefix_len is_blank s) s)))

-- a reader that goes on
pub goes_on : (line s rest : List ℕ) (a : ℕ) (p : Bytes) → s ≡ drop a line → IsEndOf rest s → cuts s ≡ p ∷ cuts rest → cuts (drop (length line - length rest) line) ≡ tail_pieces (cuts (drop a line))
goes_on line s rest a p e h q = rw (← end_of_end line s rest a e h, ← e, q) refl

pub at_the_end : (line : List ℕ) → cuts (drop (length line) line) ≡ []
at_the_end line = cuts_none (drop (length line) line) (omega (arith, length-drop (length line) line))

-- the place behind the blanks
pub same_place : (line t : List ℕ) (a n : ℕ) → t ≡ drop a line → cuts t ≡ cuts (drop n t) → cuts (drop (a + n) line) ≡ cuts (drop a line)
same_place line t a n e h = ap cuts (sym (drop-drop n a line)) ∙ (ap (λ r. cuts (drop n r)) (sym e) ∙ (sym h ∙ ap cuts e))

pub place_cuts : (line : List ℕ) (a n : ℕ) → n ≡ prefix_len is_blank (drop a line) → cuts (drop (a + n) line) ≡ cuts (drop a line)
place_cuts line a n e = same_place line (drop a line) a n refl (rw e (sym (blanks_behind (drop a line))))
