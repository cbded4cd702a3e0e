-- The number of a column of a name.
use Rattle.std.proofs.Common.{◌≡◌, ℕ, zero, suc, ◌<◌, Bool, true, false, cond, not, eqb, ◌⊎◌, List, [], ◌∷◌, length, sym, refl, ap, ◌∙◌, subst, inl, inr, ⊎_elim, arith}
use mathlib.Core.Option.{some, none}
use Rattle.std.proofs.lemmas.Bool.{and_parts, true≢false, not-true, or_left, or_right}
use Rattle.std.proofs.lemmas.Bool.Decides.{nat_tests}
use Rattle.meaning.specs.Base.{nth, Bytes, same_bytes, among, all_different}
use Rattle.meaning.specs.Values.{Col, col_type}
use Rattle.meaning.specs.Steps.{col_names}
use Rattle.meaning.proofs.Names.{same_is, same_self}
use Rattle.code.specs.Postfix.{col_index}

-- there is a column of the name, and the number is its own, or there is none
pub index_found : (cs : List Col) (x : Bytes) → ((c : Col) × (nth cs (col_index cs x) ≡ some c) × (col_type cs x ≡ some c.ty) × (col_index cs x < length cs)) ⊎ ((col_index cs x ≡ length cs) × (col_type cs x ≡ none))
index_found [] x = inr (refl, refl)
index_found (c ∷ cs) x = elim (same_bytes c.name x) as (λ b. ((d : Col) × (nth (c ∷ cs) (cond b 0 (suc (col_index cs x))) ≡ some d) × (cond b (some c.ty) (col_type cs x) ≡ some d.ty) × (cond b 0 (suc (col_index cs x)) < length (c ∷ cs))) ⊎ ((cond b 0 (suc (col_index cs x)) ≡ length (c ∷ cs)) × (cond b (some c.ty) (col_type cs x) ≡ none))) [
  | true ↦ inl (c, refl, refl, omega arith)
  | false ↦ ⊎_elim (λ p. let l = p.3 in inl (p.0, p.1, p.2, omega arith)) (λ p. inr (ap suc p.0, p.1)) (index_found cs x)
]

-- the k-th of columns with different names has the number k
in_cols : (cs : List Col) (k : ℕ) (c : Col) → nth cs k ≡ some c → among c.name (col_names cs) ≡ true
in_cols [] k c e = absurd (let z : ◌≡◌ {A = ℕ} 0 1 = cc in omega arith)
in_cols (d ∷ cs) zero c e = let s : d ≡ c = cc in or_left (same_bytes c.name d.name) (among c.name (col_names cs)) (subst (λ z. same_bytes c.name z.name ≡ true) (sym s) (same_self c.name))
in_cols (d ∷ cs) (suc k) c e = or_right (same_bytes c.name d.name) (among c.name (col_names cs)) (in_cols cs k c e)

pub index_is : (cs : List Col) (k : ℕ) (c : Col) (x : Bytes) → all_different (col_names cs) ≡ true → nth cs k ≡ some c → eqb (col_index cs x) k ≡ same_bytes c.name x
index_is [] k c x o e = absurd (let z : ◌≡◌ {A = ℕ} 0 1 = cc in omega arith)
index_is (d ∷ cs) zero c x o e = let s : d ≡ c = cc in subst (λ z. eqb (col_index (d ∷ cs) x) 0 ≡ same_bytes z.name x) s (elim (same_bytes d.name x) as (λ b. eqb (cond b 0 (suc (col_index cs x))) 0 ≡ b) [ true ↦ refl | false ↦ grind (arith, nat_tests) ])
index_is (d ∷ cs) (suc k) c x o e =
    let p = and_parts (not (among d.name (col_names cs))) (all_different (col_names cs)) o in
    (elim (same_bytes d.name x) as (λ b. same_bytes d.name x ≡ b → eqb (cond b 0 (suc (col_index cs x))) (suc k) ≡ same_bytes c.name x) [
      | true ↦ λ f. let z : eqb 0 (suc k) ≡ false = grind (arith, nat_tests) in z ∙ sym (apart (same_bytes c.name x) (λ g. let m : c.name ≡ d.name = same_is c.name x g ∙ sym (same_is d.name x f) in true≢false (sym (subst (λ z. among z (col_names cs) ≡ true) m (in_cols cs k c e)) ∙ not-true (among d.name (col_names cs)) p.0)))
      | false ↦ λ f. let z : eqb (suc (col_index cs x)) (suc k) ≡ eqb (col_index cs x) k = grind (arith, nat_tests) in z ∙ index_is cs k c x p.1 e
    ]) refl
  where
    apart : (b : Bool) → (b ≡ true → ⊥) → b ≡ false
    apart true h = absurd (h refl)
    apart false h = refl
