-- One item, by cases of what is ahead.
use Rattle.std.proofs.Common.{ℕ, get_or, ne_eqb, codes, arith, ◌≡◌, true, false, cond, List, [], ◌∷◌, length, sym, refl, ap, ◌∙◌}
use mathlib.Core.Option.{some, none}
use borrow.Author.Tests.{clash}
use Rattle.meaning.specs.Base.{Bytes, same_bytes}
use Rattle.meaning.specs.Text.{parsed, head_piece, tail_pieces, read_name, is_name}
use Rattle.std.proofs.lemmas.Slice.Eq.{text_from_reads}
use Rattle.language_statements.specs.Statements.{verb_named}
use Rattle.language_statements.specs.declared.views.Verb.TheVariants.{Distinct}

pub name_not : (l : List Bytes) (p : Bytes) → p ≡ head_piece l → is_name p ≡ false → read_name l ≡ none
name_not [] p e h = refl
name_not (x ∷ l) p e h = let k : is_name x ≡ false = ap is_name (sym e) ∙ h in ap (λ b. cond b (parsed x l) none) k

pub name_taken : (l : List Bytes) (p : Bytes) → p ≡ head_piece l → is_name p ≡ true → read_name l ≡ parsed p (tail_pieces l)
name_taken [] p e h = absurd (clash (sym (ap is_name e) ∙ h))
name_taken (x ∷ l) p e h = let k : is_name x ≡ true = ap is_name (sym e) ∙ h in ap (λ b. cond b (parsed x l) none) k ∙ ap (λ q. parsed q l) (sym e)

-- a piece with another third byte
pub same_third : (p : Bytes) (x y z : ℕ) (w : Bytes) → ¬ (get_or p 2 0 ≡ z) → same_bytes p (x ∷ y ∷ z ∷ w) ≡ false
same_third [] x y z w h = refl
same_third (a ∷ []) x y z w h = grind arith
same_third (a ∷ b ∷ []) x y z w h = grind arith
same_third (a ∷ b ∷ c ∷ p) x y z w h = let e = ne_eqb c z h in grind (arith, e)

-- the longest verb, byte by byte
pub is_distinct : (p : Bytes) → length p ≡ 8 → get_or p 0 0 ≡ 100 → get_or p 1 0 ≡ 105 → get_or p 2 0 ≡ 115 → get_or p 3 0 ≡ 116 → get_or p 4 0 ≡ 105 → get_or p 5 0 ≡ 110 → get_or p 6 0 ≡ 99 → get_or p 7 0 ≡ 116 → verb_named p ≡ some Distinct
is_distinct p n a b c d e f g h = ap verb_named (text_from_reads p (codes "distinct") n (a, (b, (c, (d, (e, (f, (g, (h, tt)))))))))
