-- The columns that code names.
use Rattle.std.proofs.Common.{◌≡◌, ℕ, zero, suc, ◌<◌, Bool, true, false, ◌||◌, eqb, List, [], ◌∷◌, ◌++◌, length, sym, refl, ap, ◌∙◌, ap₂, arith}
use mathlib.Core.Option.{some}
use Rattle.meaning.specs.Base.{each, nth, any, Bytes, same_bytes, all_different}
use Rattle.meaning.specs.Values.{Expr, e_num, e_word, e_null, e_col, e_op, e_not, e_none, e_if, Col, names_in}
use Rattle.meaning.specs.Steps.{col_names}
use Rattle.std.proofs.Math.Bool.{or-false}
use Rattle.column_set.specs.Membership.{has, Marks}
use Rattle.code.specs.Postfix.{Instr, i_op, i_not, i_none, i_if, postfix, map_col, col_index, code_for}
use Rattle.code.proofs.ColIndex.{index_is}
use Rattle.code_columns.specs.Columns.{names_col}

-- tests over lists
any_append : {A : Type 0} (p : A → Bool) (xs ys : List A) → any p (xs ++ ys) ≡ (any p xs || any p ys)
any_append p [] ys = refl
any_append p (x ∷ xs) ys = elim (p x) as (λ b. (b || any p (xs ++ ys)) ≡ ((b || any p xs) || any p ys)) [ true ↦ refl | false ↦ any_append p xs ys ]

any_each : {A C : Type 0} (p : C → Bool) (f : A → C) (xs : List A) → any p (each f xs) ≡ any (λ x. p (f x)) xs
any_each p f [] = refl
any_each p f (x ∷ xs) = ap (λ b. p (f x) || b) (any_each p f xs)

any_same : {A : Type 0} (p q : A → Bool) (xs : List A) → ((x : A) → p x ≡ q x) → any p xs ≡ any q xs
any_same p q [] h = refl
any_same p q (x ∷ xs) h = ap₂ (λ a b. a || b) (h x) (any_same p q xs h)

-- the code names what the expression does
module _ (p : Bytes → ℕ) (k : ℕ) where
  abbrev is_k : Instr Bytes → Bool
  is_k i = names_col k (map_col p i)

  abbrev named : Expr → Bool
  named e = any (λ x. eqb (p x) k) (names_in e)

  behind : (c d : List (Instr Bytes)) → any is_k d ≡ false → any is_k (c ++ d) ≡ any is_k c
  behind c d h = any_append is_k c d ∙ (ap (λ b. any is_k c || b) h ∙ or-false (any is_k c))

  postfix_names : (e : Expr) → any is_k (postfix e) ≡ named e
  postfix_names (e_num n) = refl
  postfix_names (e_word n) = refl
  postfix_names (e_null t) = refl
  postfix_names (e_col x) = refl
  postfix_names (e_op o a b) = any_append is_k (postfix a) (postfix b ++ (i_op o ∷ [])) ∙ (ap₂ (λ x y. x || y) (postfix_names a) (behind (postfix b) (i_op o ∷ []) refl ∙ postfix_names b) ∙ sym (any_append (λ x. eqb (p x) k) (names_in a) (names_in b)))
  postfix_names (e_not a) = behind (postfix a) (i_not ∷ []) refl ∙ postfix_names a
  postfix_names (e_none a) = behind (postfix a) (i_none ∷ []) refl ∙ postfix_names a
  postfix_names (e_if a b c) =
      any_append is_k (postfix a) (postfix b ++ (postfix c ++ (i_if ∷ [])))
      ∙ (ap₂ (λ x y. x || y) (postfix_names a) (any_append is_k (postfix b) (postfix c ++ (i_if ∷ [])) ∙ (ap₂ (λ x y. x || y) (postfix_names b) (behind (postfix c) (i_if ∷ []) refl ∙ postfix_names c) ∙ sym (any_append (λ x. eqb (p x) k) (names_in b) (names_in c))))
      ∙ sym (any_append (λ x. eqb (p x) k) (names_in a) (names_in b ++ names_in c)))

pub marks_named : (cs : List Col) (e : Expr) (bits : ℕ) → all_different (col_names cs) ≡ true → ((k : ℕ) → k < length cs → has bits k ≡ any (names_col k) (code_for cs e)) → Marks bits (names_in e) cs
marks_named cs e bits o h k c n = h k (nth_below cs k c n) ∙ (any_each (names_col k) (map_col (col_index cs)) (postfix e) ∙ (postfix_names (col_index cs) k e ∙ any_same (λ x. eqb (col_index cs x) k) (same_bytes c.name) (names_in e) (λ x. index_is cs k c x o n)))
  where
    nth_below : (cs : List Col) (k : ℕ) (c : Col) → nth cs k ≡ some c → k < length cs
    nth_below [] k c e = absurd (let z : ◌≡◌ {A = ℕ} 0 1 = cc in omega arith)
    nth_below (d ∷ cs) zero c e = omega arith
    nth_below (d ∷ cs) (suc k) c e = let r = nth_below cs k c e in omega arith

-- no column in the set, and all instructions left
pub names_start : (k : ℕ) {b : Bool} {is all : List (Instr ℕ)} → b ≡ false → is ≡ all → (b || any (names_col k) is) ≡ any (names_col k) all
names_start k h e = ap₂ (λ b is. b || any (names_col k) is) h e

-- an instruction goes from those left into the set
pub names_turn : (k : ℕ) {before after : List (Instr ℕ)} {x : Instr ℕ} (a b all : Bool) → before ≡ x ∷ after → b ≡ (names_col k x || a) → (a || any (names_col k) before) ≡ all → (b || any (names_col k) after) ≡ all
names_turn k {after = is} {x = x} a b all e h p = ap (λ z. z || any (names_col k) is) h ∙ (turn (names_col k x) a (any (names_col k) is) ∙ (sym (ap (λ c. a || any (names_col k) c) e) ∙ p))
  where
    turn : (x y z : Bool) → ((x || y) || z) ≡ (y || (x || z))
    turn true true z = refl
    turn true false z = refl
    turn false y z = refl

pub names_end : (k : ℕ) {is : List (Instr ℕ)} (a all : Bool) → is ≡ [] → (a || any (names_col k) is) ≡ all → a ≡ all
names_end k a all e p = sym (or-false a) ∙ (sym (ap (λ c. a || any (names_col k) c) e) ∙ p)
