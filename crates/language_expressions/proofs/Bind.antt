-- Readers bound one after another: what is left is shorter, and equal parts make equal wholes.
use Rattle.std.proofs.Common.{◌≡◌, ℕ, ◌<◌, Bool, true, false, cond, List, [], ◌∷◌, length, refl, ap, ◌∙◌, arith}
use mathlib.Core.Option.{Option, some, none}
use borrow.Author.Tests.{clash}
use Rattle.meaning.specs.Base.{map_or, Bytes, same_bytes}
use Rattle.meaning.specs.Text.{Parsed, then_read, expect, head_piece, tail_pieces}

-- what is left, if anything was read, has fewer than n pieces
abbrev pub Short : {A : Type 0} → ℕ → Option (Parsed A) → Type 0
Short n none = Unit {0}
Short n (some g) = length g.rest < n

pub cond_ind : {A : Type 0} (P : A → Type 0) (b : Bool) (x y : A) → (b ≡ true → P x) → (b ≡ false → P y) → P (cond b x y)
cond_ind P true x y f g = f refl
cond_ind P false x y f g = g refl

pub cond_same : {A : Type 0} (b : Bool) (x x' y y' : A) → (b ≡ true → x ≡ x') → (b ≡ false → y ≡ y') → cond b x y ≡ cond b x' y'
cond_same true x x' y y' f g = f refl
cond_same false x x' y y' f g = g refl

pub bind_short : {A C : Type 0} (r : Option (Parsed A)) (k : A → List Bytes → Option (Parsed C)) (m n : ℕ) → Short m r → ((a : A) (l : List Bytes) → length l < m → Short n (k a l)) → Short n (then_read r k)
bind_short none k m n h f = tt
bind_short (some g) k m n h f = f g.value_read g.rest h

pub must_short : {C : Type 0} (p : Bytes) (l : List Bytes) (k : List Bytes → Option (Parsed C)) (n : ℕ) → ((l' : List Bytes) → length l' < length l → Short n (k l')) → Short n (expect p l k)
must_short p [] k n f = tt
must_short {C} p (x ∷ l) k n f = cond_ind (λ (o : Option (Parsed C)). Short n o) (same_bytes p x) (k l) none (λ e. f l (omega arith)) (λ e. tt)

pub bind_same : {A C : Type 0} (r r' : Option (Parsed A)) (k k' : A → List Bytes → Option C) (n : ℕ) → r ≡ r' → Short n r → ((a : A) (l : List Bytes) → length l < n → k a l ≡ k' a l) → then_read r k ≡ then_read r' k'
bind_same {A} r r' k k' n e h f = go r h ∙ ap (λ x. then_read x k') e
  where
    go : (o : Option (Parsed A)) → Short n o → then_read o k ≡ then_read o k'
    go none s = refl
    go (some g) s = f g.value_read g.rest s

pub must_same : {C : Type 0} (p : Bytes) (l : List Bytes) (k k' : List Bytes → Option C) → ((l' : List Bytes) → length l' < length l → k l' ≡ k' l') → expect p l k ≡ expect p l k'
must_same p [] k k' f = refl
must_same p (x ∷ l) k k' f = cond_same (same_bytes p x) (k l) (k' l) none none (λ e. f l (omega arith)) (λ e. refl)

pub opt_same : {A C : Type 0} (o : Option A) (c c' : C) (f f' : A → C) → (o ≡ none → c ≡ c') → ((x : A) → o ≡ some x → f x ≡ f' x) → map_or o c f ≡ map_or o c' f'
opt_same none c c' f f' h k = h refl
opt_same (some x) c c' f f' h k = k x refl

pub opt_ind : {A C : Type 0} (P : C → Type 0) (o : Option A) (c : C) (f : A → C) → (o ≡ none → P c) → ((x : A) → o ≡ some x → P (f x)) → P (map_or o c f)
opt_ind P none c f h k = h refl
opt_ind P (some x) c f h k = k x refl

-- where the first piece is a sign, there is one
pub after_less : (l : List Bytes) (x : ℕ) (w : Bytes) → same_bytes (head_piece l) (x ∷ w) ≡ true → length (tail_pieces l) < length l
after_less [] x w e = absurd (clash e)
after_less (y ∷ l) x w e = omega arith
