-- Names, and what a row has under a name.
use Rattle.std.proofs.Common.{◌≡◌, ℕ, zero, suc, Bool, true, false, cond, not, ◌||◌, eqb, List, [], ◌∷◌, ◌++◌, length, replicate, sym, refl, ap, ◌∙◌, subst, ⊎_elim, arith, eq-eqb, eqb-true}
use Rattle.std.proofs.lemmas.Bool.{and_parts, and_from, or_cases, or_parts, or_left, or_right, false≢true}
use Rattle.meaning.specs.Base.{Bytes, same_bytes, among, all_different, each, filter}
use Rattle.meaning.specs.Values.{Value, null, Col, Row, get}
use Rattle.meaning.specs.Steps.{col_names}
use Rattle.meaning.specs.Plan.{add_names}

pub bool_ext : (a b : Bool) → (a ≡ true → b ≡ true) → (b ≡ true → a ≡ true) → a ≡ b
bool_ext true b f g = sym (f refl)
bool_ext false true f g = g refl
bool_ext false false f g = refl

pub same_is : (x y : Bytes) → same_bytes x y ≡ true → x ≡ y
same_is [] [] e = refl
same_is [] (y ∷ ys) e = absurd (false≢true e)
same_is (x ∷ xs) [] e = absurd (false≢true e)
same_is (x ∷ xs) (y ∷ ys) e =
    let p = and_parts (eqb x y) (same_bytes xs ys) e in
    let h : x ≡ y = eqb-true x y p.0 in
    let k : xs ≡ ys = same_is xs ys p.1 in cc

pub same_self : (x : Bytes) → same_bytes x x ≡ true
same_self [] = refl
same_self (x ∷ xs) = and_from (eqb x x) (same_bytes xs xs) (eq-eqb x x refl) (same_self xs)

pub same_sym : (x y : Bytes) → same_bytes x y ≡ same_bytes y x
same_sym x y =
    bool_ext (same_bytes x y) (same_bytes y x) (λ e. subst (λ z. same_bytes z x ≡ true) (same_is x y e) (same_self x))
    (λ e. subst (λ z. same_bytes z y ≡ true) (same_is y x e) (same_self y))

-- x is among us
abbrev pub In : Bytes → List Bytes → Type 0
In x us = among x us ≡ true

pub in_first : (x : Bytes) (us : List Bytes) → In x (x ∷ us)
in_first x us = or_left (same_bytes x x) (among x us) (same_self x)

pub in_later : (x u : Bytes) (us : List Bytes) → In x us → In x (u ∷ us)
in_later x u us h = or_right (same_bytes x u) (among x us) h

grown : (b : Bool) (v x : Bytes) (ws : List Bytes) → In x ws → In x (cond b ws (v ∷ ws))
grown true v x ws h = h
grown false v x ws h = in_later x v ws h

held : (b : Bool) (v : Bytes) (ws : List Bytes) → among v ws ≡ b → In v (cond b ws (v ∷ ws))
held true v ws e = e
held false v ws e = in_first v ws

pub add_names_right : (vs ws : List Bytes) (x : Bytes) → In x ws → In x (add_names vs ws)
add_names_right [] ws x h = h
add_names_right (v ∷ vs) ws x h = add_names_right vs (cond (among v ws) ws (v ∷ ws)) x (grown (among v ws) v x ws h)

pub add_names_left : (vs ws : List Bytes) (x : Bytes) → In x vs → In x (add_names vs ws)
add_names_left [] ws x h = absurd (false≢true h)
add_names_left (v ∷ vs) ws x h =
    ⊎_elim (λ e. add_names_right vs (cond (among v ws) ws (v ∷ ws)) x (subst (λ z. In z (cond (among v ws) ws (v ∷ ws))) (sym (same_is x v e)) (held (among v ws) v ws refl)))
    (λ k. add_names_left vs (cond (among v ws) ws (v ∷ ws)) x k) (or_cases (same_bytes x v) (among x vs) h)

kept : (b : Bool) (x u : Bytes) (us : List Bytes) → In x us → In x (cond b (u ∷ us) us)
kept true x u us h = in_later x u us h
kept false x u us h = h

pub in_filter : (p : Bytes → Bool) (us : List Bytes) (x : Bytes) → In x us → p x ≡ true → In x (filter p us)
in_filter p [] x h k = h
in_filter p (u ∷ us) x h k =
    ⊎_elim (λ e. subst (λ b. In x (cond b (u ∷ filter p us) (filter p us))) (sym (subst (λ z. p z ≡ true) (same_is x u e) k)) (or_left (same_bytes x u) (among x (filter p us)) e))
    (λ l. kept (p u) x u (filter p us) (in_filter p us x l k)) (or_cases (same_bytes x u) (among x us) h)

pub filter_in : (p : Bytes → Bool) (us : List Bytes) (x : Bytes) → In x (filter p us) → In x us
filter_in p [] x h = h
filter_in p (u ∷ us) x h =
    (elim (p u) as (λ b. In x (cond b (u ∷ filter p us) (filter p us)) → In x (u ∷ us)) [ true ↦ λ k. ⊎_elim (λ e. or_left (same_bytes x u) (among x us) e) (λ l. in_later x u us (filter_in p us x l)) (or_cases (same_bytes x u) (among x (filter p us)) k) | false ↦ λ k. in_later x u us (filter_in p us x k) ]) h

pub filter_true : (p : Bytes → Bool) (us : List Bytes) (x : Bytes) → In x (filter p us) → p x ≡ true
filter_true p [] x h = absurd (false≢true h)
filter_true p (u ∷ us) x h =
    (elim (p u) as (λ b. p u ≡ b → In x (cond b (u ∷ filter p us) (filter p us)) → p x ≡ true) [ true ↦ λ f k. ⊎_elim (λ e. subst (λ z. p z ≡ true) (sym (same_is x u e)) f) (λ l. filter_true p us x l) (or_cases (same_bytes x u) (among x (filter p us)) k) | false ↦ λ f k. filter_true p us x k ]) refl
    h

pub in_append : (xs ys : List Bytes) (z : Bytes) → among z (xs ++ ys) ≡ (among z xs || among z ys)
in_append [] ys z = refl
in_append (x ∷ xs) ys z =
    elim (same_bytes z x) as (λ b. (b || among z (xs ++ ys)) ≡ ((b || among z xs) || among z ys)) [ true ↦ refl | false ↦ in_append xs ys z ]

-- what a row has under a name, by names alone
abbrev pub look : List Bytes → Row → Bytes → Value
look [] r y = null
look (x ∷ xs) [] y = null
look (x ∷ xs) (v ∷ vs) y = cond (same_bytes y x) v (look xs vs y)

pub get_look : (cs : List Col) (r : Row) (y : Bytes) → get cs r y ≡ look (col_names cs) r y
get_look [] r y = refl
get_look (c ∷ cs) [] y = refl
get_look (c ∷ cs) (v ∷ vs) y =
    (elim (same_bytes c.name y) as (λ b. cond b v (get cs vs y) ≡ cond b v (look (col_names cs) vs y)) [ true ↦ refl | false ↦ get_look cs vs y ])
    ∙ ap (λ b. cond b v (look (col_names cs) vs y)) (same_sym c.name y)

pub look_append :
    (xs ys : List Bytes) (r s : Row) (y : Bytes) → length r ≡ length xs → look (xs ++ ys) (r ++ s) y ≡ cond (among y xs) (look xs r y) (look ys s y)
look_append [] ys [] s y e = refl
look_append [] ys (v ∷ vs) s y e = absurd (omega arith)
look_append (x ∷ xs) ys [] s y e = absurd (omega arith)
look_append (x ∷ xs) ys (v ∷ vs) s y e =
    elim (same_bytes y x) as (λ b. cond b v (look (xs ++ ys) (vs ++ s) y) ≡ cond (b || among y xs) (cond b v (look xs vs y)) (look ys s y)) [ true ↦ refl | false ↦ look_append xs ys vs s y (omega arith) ]

pub look_each : (f : Bytes → Value) (xs : List Bytes) (y : Bytes) → look xs (each f xs) y ≡ cond (among y xs) (f y) null
look_each f [] y = refl
look_each f (x ∷ xs) y =
    (elim (same_bytes y x) as (λ b. same_bytes y x ≡ b → cond b (f x) (look xs (each f xs) y) ≡ cond (b || among y xs) (f y) null) [ true ↦ λ e. ap f (sym (same_is y x e)) | false ↦ λ e. look_each f xs y ]) refl

pub look_none : (xs : List Bytes) (r : Row) (y : Bytes) → among y xs ≡ false → look xs r y ≡ null
look_none [] r y e = refl
look_none (x ∷ xs) [] y e = refl
look_none (x ∷ xs) (v ∷ vs) y e = let p = or_parts (same_bytes y x) (among y xs) e in subst (λ b. cond b v (look xs vs y) ≡ null) (sym p.0) (look_none xs vs y p.1)

pub look_empty : (xs : List Bytes) (n : ℕ) (y : Bytes) → look xs (replicate n null) y ≡ null
look_empty [] n y = refl
look_empty (x ∷ xs) zero y = refl
look_empty (x ∷ xs) (suc n) y =
    elim (same_bytes y x) as (λ b. cond b null (look xs (replicate n null) y) ≡ null) [ true ↦ refl | false ↦ look_empty xs n y ]

never_both : (b : Bool) → not b ≡ true → b ≡ true → ⊥
never_both true n g = false≢true n
never_both false n g = false≢true g

pub apart : (x : Bytes) (xs : List Bytes) → not (among x xs) ≡ true → (y : Bytes) → In y xs → same_bytes y x ≡ false
apart x xs n y k =
    bool_ext (same_bytes y x) false (λ e. absurd (never_both (among x xs) n (subst (λ z. In z xs) (same_is y x e) k))) (λ e. absurd (false≢true e))

-- rows that show the same under all names are equal
pub look_all :
    (xs : List Bytes) (r s : Row) → all_different xs ≡ true → length r ≡ length xs → length s ≡ length xs
    → ((y : Bytes) → In y xs → look xs r y ≡ look xs s y) → r ≡ s
look_all [] [] [] o e f h = refl
look_all [] [] (w ∷ ws) o e f h = absurd (omega arith)
look_all [] (v ∷ vs) s o e f h = absurd (omega arith)
look_all (x ∷ xs) [] s o e f h = absurd (omega arith)
look_all (x ∷ xs) (v ∷ vs) [] o e f h = absurd (omega arith)
look_all (x ∷ xs) (v ∷ vs) (w ∷ ws) o e f h =
    let p = and_parts (not (among x xs)) (all_different xs) o in
    ap (λ u. u ∷ vs) (subst (λ b. cond b v (look xs vs x) ≡ cond b w (look xs ws x)) (same_self x) (h x (in_first x xs)))
    ∙ ap (λ l. w ∷ l) (look_all xs vs ws p.1 (omega arith) (omega arith) (λ y k. subst (λ b. cond b v (look xs vs y) ≡ cond b w (look xs ws y)) (apart x xs p.0 y k) (h y (in_later y x xs k))))

pub names_append : (cs ds : List Col) → col_names (cs ++ ds) ≡ col_names cs ++ col_names ds
names_append [] ds = refl
names_append (c ∷ cs) ds = ap (λ l. c.name ∷ l) (names_append cs ds)

pub names_length : (cs : List Col) → length (col_names cs) ≡ length cs
names_length [] = refl
names_length (c ∷ cs) = ap suc (names_length cs)
