-- The names in an expression that has a type are those of columns.
use Rattle.std.proofs.Common.{◌≡◌, ℕ, ◌<◌, Bool, true, false, ◌⊎◌, List, [], ◌∷◌, ◌++◌, length, sym, refl, ◌∙◌, subst, ⊎_elim, arith}
use mathlib.Core.Option.{Option, some, none}
use Rattle.std.proofs.lemmas.Bool.{or_cases, true≢false}
use Rattle.meaning.specs.Base.{and_then, when, Bytes, same_bytes, among}
use Rattle.meaning.specs.Values.{Ty, t_num, same_type, Op, op_arith as on_numbers, op_compare, op_logic, Expr, e_num, e_word, e_null, e_col, e_op, e_not, e_none, e_if, Col, col_type, expect_type, op_type, type_of, names_in}
use Rattle.meaning.proofs.Names.{same_is, in_append}
use Rattle.code.specs.Postfix.{col_index}
use Rattle.code.proofs.ColIndex.{index_found}

abbrev Some : Option Ty → Type 0
Some o = (t : Ty) × (o ≡ some t)

from_on : (o : Option Ty) (f : Ty → Option Ty) → Some (and_then o f) → Some o
from_on none f p = absurd (let q = p.1 in let z : ◌≡◌ {A = ℕ} 0 1 = cc in omega arith)
from_on (some t) f p = (t, refl)

on_then : (o : Option Ty) (f : Ty → Option Ty) → Some (and_then o f) → (t : Ty) × Some (f t)
on_then none f p = absurd (let q = p.1 in let z : ◌≡◌ {A = ℕ} 0 1 = cc in omega arith)
on_then (some t) f p = (t, p)

from_when : (b : Bool) (o : Option Ty) → Some (when b o) → Some o
from_when true o p = p
from_when false o p = absurd (let q = p.1 in let z : ◌≡◌ {A = ℕ} 0 1 = cc in omega arith)

want_left : (o : Option Ty) (t : Ty) (p : Option Ty) → Some (expect_type o t p) → Some o
want_left o t p h = from_on o (λ u. when (same_type u t) p) h

want_right : (o : Option Ty) (t : Ty) (p : Option Ty) → Some (expect_type o t p) → Some p
want_right o t p h = let q = on_then o (λ u. when (same_type u t) p) h in from_when (same_type q.0 t) p q.1

op_both : (o : Op) (s t : Option Ty) → Some (op_type o s t) → Some s × Some t
op_both (on_numbers o) s t h = (want_left s t_num _ h, want_left t t_num _ (want_right s t_num (expect_type t t_num (some t_num)) h))
op_both (op_compare o) s t h = (from_on s _ h, let q = on_then s (λ u. expect_type t u (some t_num)) h in want_left t q.0 (some t_num) q.1)
op_both (op_logic o) s t h = (want_left s t_num _ h, want_left t t_num _ (want_right s t_num (expect_type t t_num (some t_num)) h))

among_cases : (x : Bytes) (xs ys : List Bytes) → among x (xs ++ ys) ≡ true → (among x xs ≡ true) ⊎ (among x ys ≡ true)
among_cases x xs ys h = or_cases (among x xs) (among x ys) (sym (in_append xs ys x) ∙ h)

module _ (cs : List Col) (x : Bytes) where
  abbrev There : Type 0
  There = col_index cs x < length cs

  has_index : (y : Bytes) → Some (col_type cs y) → among x (y ∷ []) ≡ true → There
  has_index y p h =
      let e : x ≡ y = ⊎_elim (λ g. same_is x y g) (λ g. absurd (true≢false (sym g))) (or_cases (same_bytes x y) false h) in
      subst (λ z. col_index cs z < length cs) (sym e) (⊎_elim (λ q. q.3) (λ q. absurd (let a = q.1 in let b = p.1 in let z : ◌≡◌ {A = ℕ} 0 1 = cc in omega arith)) (index_found cs y))

  pub typed_there : (e : Expr) → Some (type_of cs e) → among x (names_in e) ≡ true → There
  typed_there (e_num n) p h = absurd (true≢false (sym h))
  typed_there (e_word n) p h = absurd (true≢false (sym h))
  typed_there (e_null t) p h = absurd (true≢false (sym h))
  typed_there (e_col y) p h = has_index y p h
  typed_there (e_op o a b) p h = let q = op_both o (type_of cs a) (type_of cs b) p in ⊎_elim (typed_there a q.0) (typed_there b q.1) (among_cases x (names_in a) (names_in b) h)
  typed_there (e_not a) p h = typed_there a (want_left (type_of cs a) t_num (some t_num) p) h
  typed_there (e_none a) p h = typed_there a (from_on (type_of cs a) (λ t. some t_num) p) h
  typed_there (e_if a b c) p h =
      let q = want_left (type_of cs a) t_num _ p in
      let r = want_right (type_of cs a) t_num (and_then (type_of cs b) (λ t. expect_type (type_of cs c) t (some t))) p in
      let s = from_on (type_of cs b) (λ t. expect_type (type_of cs c) t (some t)) r in
      let u = on_then (type_of cs b) (λ t. expect_type (type_of cs c) t (some t)) r in
      ⊎_elim (typed_there a q) (λ k. ⊎_elim (typed_there b s) (typed_there c (want_left (type_of cs c) u.0 (some u.0) u.1)) (among_cases x (names_in b) (names_in c) k)) (among_cases x (names_in a) (names_in b ++ names_in c) h)
