-- Which names are used, as tests; and one turn of a run.
use Rattle.std.proofs.Common.{◌≡◌, ℕ, ◌+◌, Bool, true, false, cond, not, ◌&&◌, ◌||◌, List, [], ◌∷◌, length, sym, refl, ap, ◌∙◌, subst, ap₂, ⊎_elim}
use mathlib.Core.Option.{some}
use Rattle.std.proofs.lemmas.Bool.{and_parts, and_from, or_cases, or_right}
use Rattle.meaning.specs.Base.{map_or, any, Bytes, same_bytes, among, filter}
use Rattle.meaning.specs.Values.{Col, names_in}
use Rattle.meaning.specs.Steps.{Decl, NamedAgg, Step, s_keep, s_make, s_pick, s_join, s_group, s_order, s_take, s_skip, s_unite, s_distinct, Table, col_names, key_names}
use Rattle.meaning.specs.Plan.{cols_after, add_names, intersect, agg_names, used_aggs, used_before, used}
use Rattle.projection.specs.Projected.{Scan, projected_next, projected_steps, named_amount, projected_total}
use Rattle.projection.specs.Cells.{UsedByMembership, JoinUsedByMembership}
use Rattle.std.proofs.Math.Bool.{or-false}
use Rattle.meaning.proofs.Names.{In, bool_ext, same_is, in_filter, filter_in, filter_true}

grown_is : (b : Bool) (x v : Bytes) (ws : List Bytes) → among v ws ≡ b → among x (cond b ws (v ∷ ws)) ≡ (same_bytes x v || among x ws)
grown_is true x v ws e =
    bool_ext (among x ws) (same_bytes x v || among x ws) (λ h. or_right (same_bytes x v) (among x ws) h)
    (λ h. ⊎_elim (λ f. subst (λ z. In z ws) (sym (same_is x v f)) e) (λ k. k) (or_cases (same_bytes x v) (among x ws) h))
grown_is false x v ws e = refl

turn_or : (a b c : Bool) → (a || (b || c)) ≡ ((b || a) || c)
turn_or true true c = refl
turn_or true false c = refl
turn_or false true c = refl
turn_or false false c = refl

pub add_names_is : (x : Bytes) (vs ws : List Bytes) → among x (add_names vs ws) ≡ (among x vs || among x ws)
add_names_is x [] ws = refl
add_names_is x (v ∷ vs) ws =
    add_names_is x vs (cond (among v ws) ws (v ∷ ws))
    ∙ (ap (λ b. among x vs || b) (grown_is (among v ws) x v ws refl) ∙ turn_or (among x vs) (same_bytes x v) (among x ws))

pub filter_is : (p : Bytes → Bool) (x : Bytes) (us : List Bytes) → among x (filter p us) ≡ (among x us && p x)
filter_is p x us =
    bool_ext (among x (filter p us)) (among x us && p x) (λ h. and_from (among x us) (p x) (filter_in p us x h) (filter_true p us x h))
    (λ h. let k = and_parts (among x us) (p x) h in in_filter p us x k.0 k.1)

pub used_aggs_is :
    (x : Bytes) (us : List Bytes) (aggs : List NamedAgg)
    → among x (used_aggs us aggs) ≡ any (λ a. among a.name us && among x (agg_names a.agg)) aggs
used_aggs_is x us [] = refl
used_aggs_is x us (a ∷ aggs) =
    add_names_is x (cond (among a.name us) (agg_names a.agg) []) (used_aggs us aggs)
    ∙ ap₂ (λ b c. b || c)
    (elim (among a.name us) as (λ b. among x (cond b (agg_names a.agg) []) ≡ (b && among x (agg_names a.agg))) [ true ↦ refl | false ↦ refl ])
    (used_aggs_is x us aggs)

-- what is used before a step
pub used_by_membership : UsedByMembership
used_by_membership cs (s_keep e) us x = add_names_is x (names_in e) us
used_by_membership cs (s_make y e) us x =
    elim (among y us) as (λ b. among x (cond b (add_names (names_in e) (filter (λ u. not (same_bytes u y)) us)) us) ≡ cond b (among x (names_in e) || (among x us && not (same_bytes x y))) (among x us)) [ true ↦ add_names_is x (names_in e) (filter (λ u. not (same_bytes u y)) us) ∙ ap (λ b. among x (names_in e) || b) (filter_is (λ u. not (same_bytes u y)) x us) | false ↦ refl ]
used_by_membership cs (s_pick xs) us x = refl
used_by_membership cs (s_join n y z stay) us x =
    add_names_is x (y ∷ []) (intersect us (col_names cs))
    ∙ ap₂ (λ a b. a || b) (or-false (same_bytes x y)) (filter_is (λ u. among u (col_names cs)) x us)
used_by_membership cs (s_group xs aggs) us x = add_names_is x xs (used_aggs us aggs) ∙ ap (λ b. among x xs || b) (used_aggs_is x us aggs)
used_by_membership cs (s_order ks) us x = add_names_is x (key_names ks) us
used_by_membership cs (s_take n) us x = refl
used_by_membership cs (s_skip n) us x = refl
used_by_membership cs (s_unite n) us x = refl
used_by_membership cs s_distinct us x = refl

pub join_used_by_membership : JoinUsedByMembership
join_used_by_membership es n y z stay us x =
    add_names_is x (z ∷ []) (intersect us (col_names es))
    ∙ ap₂ (λ a b. a || b) (or-false (same_bytes x z)) (filter_is (λ u. among u (col_names es)) x us)

-- one turn
pub used_turn :
    (ds : List Decl) (cs es : List Col) (s : Step) (ss : List Step) → cols_after ds cs s ≡ some es
    → used ds cs (s ∷ ss) ≡ used_before cs s (used ds es ss)
used_turn ds cs es s ss e = ap (λ o. map_or o [] (λ es. used_before cs s (used ds es ss))) e

pub projected_turn :
    (ds : List Decl) (sc : Scan) (cs es : List Col) (t : Table) (s : Step) (ss : List Step) → cols_after ds cs s ≡ some es
    → projected_steps ds sc cs t (s ∷ ss) ≡ projected_steps ds sc es (projected_next ds sc es t s ss) ss
projected_turn ds sc cs es t s ss e = ap (λ o. map_or o t (λ es. projected_steps ds sc es (projected_next ds sc es t s ss) ss)) e

pub total_turn :
    (f : ℕ → ℕ → ℕ) (ds : List Decl) (sc : Scan) (cs es : List Col) (t : Table) (s : Step) (ss : List Step) → cols_after ds cs s ≡ some es
    → projected_total f ds sc cs t (s ∷ ss)
    ≡ f (length cs) (length t.rows) + (named_amount f ds s + projected_total f ds sc es (projected_next ds sc es t s ss) ss)
total_turn f ds sc cs es t s ss e =
    ap (λ o. f (length cs) (length t.rows) + (named_amount f ds s + map_or o 0 (λ es. projected_total f ds sc es (projected_next ds sc es t s ss) ss)))
    e
