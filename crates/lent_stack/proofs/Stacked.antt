-- Words as items: how many, and one more.
use Rattle.std.proofs.Common.{◌≡◌, ℕ, zero, suc, ◌+◌, ◌-◌, ◌<◌, ◌≤◌, ◌≢◌, List, [], ◌∷◌, length, get_or, set, refl, ap, ap₂, ◌∙◌, add-one, arith, get_or-set_other, get_or-set_same, length-set}
use Rattle.meaning.specs.Base.{each}
use Rattle.lent_stack.specs.Stacked.{Stacked, unpacked_first, on_words, rest, pushed}

length-unpacked_first : {T : Type 0} (f : ℕ → T) (ws : List ℕ) (d : ℕ) → length (unpacked_first f ws d) ≡ d
length-unpacked_first f ws zero = refl
length-unpacked_first f ws (suc d) = ap suc (length-unpacked_first f ws d)

set_behind : {T : Type 0} (f : ℕ → T) (ws : List ℕ) (d k x : ℕ) → d ≤ k → unpacked_first f (set ws k x) d ≡ unpacked_first f ws d
set_behind f ws zero k x h = refl
set_behind f ws (suc d) k x h = let ne : d ≢ k = omega arith in rw (get_or-set_other, set_behind f ws d k x (omega arith))

set_next : {T : Type 0} (f : ℕ → T) (ws : List ℕ) (d x : ℕ) (y : T) → d < length ws → f x ≡ y → unpacked_first f (set ws d x) (d + 1) ≡ y ∷ unpacked_first f ws d
set_next f ws d x y l e = rw (add-one, get_or-set_same, set_behind f ws d d x (omega arith), e)

pub word_left : {T : Type 0} (f : ℕ → T) (ws : List ℕ) (d : ℕ) (s : Stacked T) → on_words f ws d ≡ s → length s.items < s.room → d < length ws
word_left f ws d s e h = let p = ap (λ t. length t.items) e in let q = ap (λ t. t.room) e in let l = length-unpacked_first f ws d in omega arith

pub one_more : {T : Type 0} (f : ℕ → T) (ws : List ℕ) (d k x : ℕ) (s : Stacked T) → on_words f ws d ≡ s → length s.items < s.room → d + 1 ≤ length (set ws k x)
one_more f ws d k x s e h = let l = word_left f ws d s e h in rw length-set (omega arith)

pub pushed_word : {T : Type 0} (f : ℕ → T) (ws : List ℕ) (d x : ℕ) (y : T) (s : Stacked T) → on_words f ws d ≡ s → d < length ws → f x ≡ y → on_words f (set ws d x) (d + 1) ≡ pushed y s
pushed_word f ws d x y s e l p = ap₂ (λ i r. record { items = i; room = r }) (set_next f ws d x y l p) (length-set ws d x) ∙ ap (pushed y) e

pub none_above : {T : Type 0} (f : ℕ → T) (ws : List ℕ) (d : ℕ) (s : Stacked T) → on_words f ws d ≡ s → d ≤ length ws → length s.items ≤ s.room
none_above f ws d s e h = let p = ap (λ t. length t.items) e in let q = ap (λ t. t.room) e in let l = length-unpacked_first f ws d in omega arith

-- the items of no words, and of some: the last word first
pub none_on : {T : Type 0} (f : ℕ → T) (ws : List ℕ) (d : ℕ) → d ≡ 0 → unpacked_first f ws d ≡ []
none_on f ws d h = ap (unpacked_first f ws) h

pub some_on : {T : Type 0} (f : ℕ → T) (ws : List ℕ) (d : ℕ) → d ≢ 0 → unpacked_first f ws d ≡ f (get_or ws (d - 1) 0) ∷ unpacked_first f ws (d - 1)
some_on f ws zero h = absurd (h refl)
some_on f ws (suc d) h = let e : suc d - 1 ≡ d = omega arith in rw e

-- what the items behind the first stand for
pub rest_each : {A C : Type 0} (f : A → C) (xs : List A) → each f (rest xs) ≡ rest (each f xs)
rest_each f [] = refl
rest_each f (x ∷ xs) = refl
