-- Code over a table's columns, and over those that are used.
use Rattle.std.proofs.Common.{◌≡◌, ℕ, suc, ◌+◌, ◌*◌, ◌/◌, ◌<◌, true, false, cond, List, [], ◌∷◌, ◌++◌, length, get_or, take, sym, refl, ap, ◌∙◌, ap₂, arith}
use Rattle.std.proofs.lemmas.Bool.{lt-ltb, or_left, or_right}
use Rattle.meaning.specs.Base.{each, Bytes, among, same_bytes}
use Rattle.meaning.specs.Values.{Expr, e_num, e_word, e_null, e_col, e_op, e_not, e_none, e_if, Col, names_in}
use Rattle.meaning.proofs.Names.{same_is, same_self, in_append}
use Rattle.meaning.proofs.Pairs.{each_append}
use Rattle.projection.proofs.Steps.{each_each}
use Rattle.projection.specs.Projected.{project_cols}
use Rattle.column_set.specs.Membership.{count_before, Marks}
use Rattle.column_set.specs.declared.ColumnSet.{ColumnSet}
use Rattle.column_set.proofs.Places.{before_projected}
use Rattle.code.specs.Postfix.{Instr, i_col, i_op, i_not, i_none, i_if, postfix, map_col, col_index, code_for}
use Rattle.code.specs.Words.{unpacked, instruction_at, unpack_all, code_in}
use Rattle.code_columns.specs.Columns.{new_index, NamesUsed}

-- all of them
next : (k : ℕ) → 2 * suc k ≡ suc (suc (2 * k))
next k = omega arith

next1 : (k : ℕ) → 2 * suc k + 1 ≡ suc (suc (2 * k + 1))
next1 k = omega arith

at_next : (t a : ℕ) (ws : List ℕ) (k : ℕ) → instruction_at (t ∷ (a ∷ ws)) (suc k) ≡ instruction_at ws k
at_next t a ws k = ap₂ (λ i j. unpacked (get_or (t ∷ (a ∷ ws)) i 0) (get_or (t ∷ (a ∷ ws)) j 0)) (next k) (next1 k)

unpack_each : (f : ℕ → ℕ) (ws vs : List ℕ) → length vs ≡ length ws → ((k : ℕ) → k < length ws / 2 → instruction_at vs k ≡ map_col f (instruction_at ws k)) → unpack_all vs ≡ each (map_col f) (unpack_all ws)
unpack_each f [] [] l h = refl
unpack_each f [] (v ∷ vs) l h = absurd (omega arith)
unpack_each f (t ∷ []) [] l h = absurd (omega arith)
unpack_each f (t ∷ []) (v ∷ []) l h = refl
unpack_each f (t ∷ []) (v ∷ (u ∷ vs)) l h = absurd (omega arith)
unpack_each f (t ∷ (a ∷ ws)) [] l h = absurd (omega arith)
unpack_each f (t ∷ (a ∷ ws)) (v ∷ []) l h = absurd (omega arith)
unpack_each f (t ∷ (a ∷ ws)) (v ∷ (u ∷ vs)) l h = ap₂ (λ x c. x ∷ c) (h 0 (omega arith)) (unpack_each f ws vs (omega arith) (λ k q. sym (at_next v u vs k) ∙ (h (suc k) (omega arith) ∙ ap (map_col f) (at_next t a ws k))))

pub code_each : (f : ℕ → ℕ) (ws vs : List ℕ) → length vs ≡ length ws → ((k : ℕ) → k < length ws / 2 → instruction_at vs k ≡ map_col f (instruction_at ws k)) → code_in vs ≡ each (map_col f) (code_in ws)
unfolding code_in
code_each f ws vs l h = unpack_each f ws vs l h

-- where a column stands in a table that has only the columns used
pub index_projected : (us : List Bytes) (x : Bytes) → among x us ≡ true → (cs : List Col) → col_index (project_cols us cs) x ≡ length (project_cols us (take (col_index cs x) cs))
index_projected us x u [] = refl
index_projected us x u (c ∷ cs) =
    (elim (same_bytes c.name x) as (λ b. same_bytes c.name x ≡ b → col_index (project_cols us (c ∷ cs)) x ≡ length (project_cols us (take (cond b 0 (suc (col_index cs x))) (c ∷ cs)))) [
      | true ↦ λ f. ap (λ b. col_index (cond b (c ∷ project_cols us cs) (project_cols us cs)) x) (ap (λ z. among z us) (same_is c.name x f) ∙ u) ∙ ap (λ b. cond b 0 (suc (col_index (project_cols us cs) x))) f
      | false ↦ λ f. elim (among c.name us) as (λ b. col_index (cond b (c ∷ project_cols us cs) (project_cols us cs)) x ≡ length (cond b (c ∷ project_cols us (take (col_index cs x) cs)) (project_cols us (take (col_index cs x) cs)))) [ true ↦ ap (λ b. cond b 0 (suc (col_index (project_cols us cs) x))) f ∙ ap suc (index_projected us x u cs) | false ↦ index_projected us x u cs ]
    ]) refl

-- of an expression
module _ (set : ColumnSet) (us : List Bytes) (cs : List Col) (l : length cs ≡ set.width) (m : Marks set.bits us cs) where
  abbrev to : ℕ → ℕ
  to = new_index set

  new_index_is : (x : Bytes) → among x us ≡ true → col_index cs x < length cs → to (col_index cs x) ≡ col_index (project_cols us cs) x
  new_index_is x u h = let q : col_index cs x < set.width = omega arith in ap (λ b. cond b (count_before set.bits (col_index cs x)) (col_index cs x)) (lt-ltb (col_index cs x) set.width q) ∙ (before_projected set.bits us cs m (col_index cs x) (omega arith) ∙ sym (index_projected us x u cs))

  abbrev one_by : Instr Bytes → Instr ℕ
  one_by i = map_col to (map_col (col_index cs) i)

  abbrev other_by : Instr Bytes → Instr ℕ
  other_by i = map_col (col_index (project_cols us cs)) i

  among_left : (x : Bytes) (xs ys : List Bytes) → among x xs ≡ true → among x (xs ++ ys) ≡ true
  among_left x xs ys h = in_append xs ys x ∙ or_left (among x xs) (among x ys) h

  among_right : (x : Bytes) (xs ys : List Bytes) → among x ys ≡ true → among x (xs ++ ys) ≡ true
  among_right x xs ys h = in_append xs ys x ∙ or_right (among x xs) (among x ys) h

  postfix_moved : (e : Expr) → NamesUsed us cs e → each one_by (postfix e) ≡ each other_by (postfix e)
  postfix_moved (e_num n) h = refl
  postfix_moved (e_word n) h = refl
  postfix_moved (e_null t) h = refl
  postfix_moved (e_col x) h = let p = h x (or_left (same_bytes x x) false (same_self x)) in ap (λ i. i_col i ∷ []) (new_index_is x p.0 p.1)
  postfix_moved (e_op o a b) h =
      each_append one_by (postfix a) _ ∙ (ap₂ (λ c d. c ++ d) (postfix_moved a (λ x u. h x (among_left x (names_in a) (names_in b) u))) (each_append one_by (postfix b) _ ∙ (ap (λ c. c ++ (i_op o ∷ [])) (postfix_moved b (λ x u. h x (among_right x (names_in a) (names_in b) u))) ∙ sym (each_append other_by (postfix b) _))) ∙ sym (each_append other_by (postfix a) _))
  postfix_moved (e_not a) h = each_append one_by (postfix a) _ ∙ (ap (λ c. c ++ (i_not ∷ [])) (postfix_moved a h) ∙ sym (each_append other_by (postfix a) _))
  postfix_moved (e_none a) h = each_append one_by (postfix a) _ ∙ (ap (λ c. c ++ (i_none ∷ [])) (postfix_moved a h) ∙ sym (each_append other_by (postfix a) _))
  postfix_moved (e_if a b c) h =
      each_append one_by (postfix a) _ ∙ (ap₂ (λ x y. x ++ y) (postfix_moved a (λ x u. h x (among_left x (names_in a) (names_in b ++ names_in c) u)))
      (each_append one_by (postfix b) _ ∙ (ap₂ (λ x y. x ++ y) (postfix_moved b (λ x u. h x (among_right x (names_in a) (names_in b ++ names_in c) (among_left x (names_in b) (names_in c) u))))
      (each_append one_by (postfix c) _ ∙ (ap (λ r. r ++ (i_if ∷ [])) (postfix_moved c (λ x u. h x (among_right x (names_in a) (names_in b ++ names_in c) (among_right x (names_in b) (names_in c) u)))) ∙ sym (each_append other_by (postfix c) _)))
      ∙ sym (each_append other_by (postfix b) _)))
      ∙ sym (each_append other_by (postfix a) _))

  pub projected_code : (e : Expr) → NamesUsed us cs e → each (map_col to) (code_for cs e) ≡ code_for (project_cols us cs) e
  projected_code e h = each_each (map_col to) (map_col (col_index cs)) (postfix e) ∙ postfix_moved e h
