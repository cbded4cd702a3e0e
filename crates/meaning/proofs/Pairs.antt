-- Two lists, element by element.
use Rattle.std.proofs.Common.{◌≡◌, ℕ, zero, suc, Bool, true, false, cond, ◌||◌, List, [], ◌∷◌, ◌++◌, length, take, drop, refl, ap, ◌∙◌, subst}
use Rattle.meaning.specs.Base.{any, filter, each, flat_map}

pub each_append : {A C : Type 0} (f : A → C) (xs ys : List A) → each f (xs ++ ys) ≡ each f xs ++ each f ys
each_append f [] ys = refl
each_append f (x ∷ xs) ys = ap (λ l. f x ∷ l) (each_append f xs ys)

pub data Pairs {A C : Type 0} (R : A → C → Type 0) : List A → List C → Type 0 where
  p_none : Pairs R [] []
  p_more : {a : A} {c : C} {xs : List A} {cs : List C} → R a c → Pairs R xs cs → Pairs R (a ∷ xs) (c ∷ cs)

module _ {A C : Type 0} (R : A → C → Type 0) where
  pub pairs_append : {xs : List A} {cs : List C} {bs : List A} {ds : List C} → Pairs R xs cs → Pairs R bs ds → Pairs R (xs ++ bs) (cs ++ ds)
  pairs_append p_none q = q
  pairs_append (p_more h p) q = p_more h (pairs_append p q)

  pub pairs_take : (n : ℕ) {xs : List A} {cs : List C} → Pairs R xs cs → Pairs R (take n xs) (take n cs)
  pairs_take zero p_none = p_none
  pairs_take (suc n) p_none = p_none
  pairs_take zero (p_more h p) = p_none
  pairs_take (suc n) (p_more h p) = p_more h (pairs_take n p)

  pub pairs_drop : (n : ℕ) {xs : List A} {cs : List C} → Pairs R xs cs → Pairs R (drop n xs) (drop n cs)
  pairs_drop zero p_none = p_none
  pairs_drop (suc n) p_none = p_none
  pairs_drop zero (p_more h p) = p_more h p
  pairs_drop (suc n) (p_more h p) = pairs_drop n p

  pub pairs_length : {xs : List A} {cs : List C} → Pairs R xs cs → length xs ≡ length cs
  pairs_length p_none = refl
  pairs_length (p_more h p) = ap suc (pairs_length p)

  pub pairs_filter :
      (f : A → Bool) (g : C → Bool) → ((a : A) (c : C) → R a c → f a ≡ g c) → {xs : List A} {cs : List C} → Pairs R xs cs
      → Pairs R (filter f xs) (filter g cs)
  pairs_filter f g e p_none = p_none
  pairs_filter f g e (p_more {a} {c} {xs} {cs} h p) =
      subst (λ b. Pairs R (cond (f a) (a ∷ filter f xs) (filter f xs)) (cond b (c ∷ filter g cs) (filter g cs))) (e a c h)
      (elim (f a) as (λ b. Pairs R (cond b (a ∷ filter f xs) (filter f xs)) (cond b (c ∷ filter g cs) (filter g cs))) [ true ↦ p_more h (pairs_filter f g e p) | false ↦ pairs_filter f g e p ])

  pub pairs_same :
      {D : Type 0} (f : A → D) (g : C → D) → ((a : A) (c : C) → R a c → f a ≡ g c) → {xs : List A} {cs : List C} → Pairs R xs cs
      → each f xs ≡ each g cs
  pairs_same f g e p_none = refl
  pairs_same f g e (p_more {a} {c} {xs} {cs} h p) = ap (λ x. x ∷ each f xs) (e a c h) ∙ ap (λ l. g c ∷ l) (pairs_same f g e p)

  pub pairs_any :
      (f : A → Bool) (g : C → Bool) → ((a : A) (c : C) → R a c → f a ≡ g c) → {xs : List A} {cs : List C} → Pairs R xs cs → any f xs ≡ any g cs
  pairs_any f g e p_none = refl
  pairs_any f g e (p_more {a} {c} {xs} {cs} h p) = ap (λ x. x || any f xs) (e a c h) ∙ ap (λ l. g c || l) (pairs_any f g e p)

module _ {A C B D : Type 0} (R : A → C → Type 0) (S : B → D → Type 0) where
  pub pairs_each :
      (f : A → B) (g : C → D) → ((a : A) (c : C) → R a c → S (f a) (g c)) → {xs : List A} {cs : List C} → Pairs R xs cs
      → Pairs S (each f xs) (each g cs)
  pairs_each f g e p_none = p_none
  pairs_each f g e (p_more {a} {c} h p) = p_more (e a c h) (pairs_each f g e p)

  pub pairs_flat_map :
      (f : A → List B) (g : C → List D) → ((a : A) (c : C) → R a c → Pairs S (f a) (g c)) → {xs : List A} {cs : List C} → Pairs R xs cs
      → Pairs S (flat_map f xs) (flat_map g cs)
  pairs_flat_map f g e p_none = p_none
  pairs_flat_map f g e (p_more {a} {c} h p) = pairs_append S (e a c h) (pairs_flat_map f g e p)

pub pairs_weaker :
    {A C : Type 0} (R S : A → C → Type 0) → ((a : A) (c : C) → R a c → S a c) → {xs : List A} {cs : List C} → Pairs R xs cs → Pairs S xs cs
pairs_weaker R S e p_none = p_none
pairs_weaker R S e (p_more {a} {c} h p) = p_more (e a c h) (pairs_weaker R S e p)
