-- Code with columns by their names in a line.
use Rattle.std.proofs.Common.{◌≡◌, ℕ, Bool, true, false, cond, List, [], ◌∷◌, ◌++◌, drop, sym, refl, ap, ◌∙◌}
use mathlib.Core.Option.{Option, some, none}
use borrow.Author.Tests.{clash}
use Rattle.meaning.specs.Base.{each, map_or, Bytes}
use Rattle.meaning.specs.Text.{head_piece, is_name}
use Rattle.code.specs.Postfix.{Instr, i_num, i_word, i_col, map_col}
use Rattle.language_pieces.specs.Pieces.{cuts, name_at}
use Rattle.language_pieces.specs.Views.{ahead}
use Rattle.language_expressions.specs.Views.{named_code}
use Rattle.language_pieces.specs.declared.reader.Reader.{Reader}

pub each_append : {A C : Type 0} (f : A → C) (xs : List A) (x : A) → each f (xs ++ (x ∷ [])) ≡ each f xs ++ (f x ∷ [])
each_append f [] x = refl
each_append f (y ∷ xs) x = ap (λ t. f y ∷ t) (each_append f xs x)

pub code_more : (line : List ℕ) (c : List (Instr ℕ)) (i : Instr ℕ) → named_code line (c ++ (i ∷ [])) ≡ named_code line c ++ (map_col (name_at line) i ∷ [])
unfolding named_code
code_more line c i = each_append (map_col (name_at line)) c i

-- a name that a reader has before it is the piece that begins there
pub name_there : (r : Reader) (place : ℕ) (p : Bytes) → p ≡ head_piece (ahead r) → is_name p ≡ true → cuts (drop place r.line.now) ≡ cuts (drop r.at r.line.now) → name_at r.line.now place ≡ p
unfolding ahead name_at
name_there r place p e n h = by r.unclosed e
  where
    by : (b : Bool) → p ≡ head_piece (cond b ((39 ∷ []) ∷ []) (cuts (drop r.at r.line.now))) → head_piece (cuts (drop place r.line.now)) ≡ p
    by true q = absurd (clash (sym (ap is_name q) ∙ n))
    by false q = ap head_piece h ∙ sym q

-- the leaf of a name
pub column_leaf : (a b : Option ℕ) (n : Bool) (p x : Bytes) → none ≡ a → none ≡ b → true ≡ n → x ≡ p → map_or a (map_or b (cond n (some (i_col p)) none) (λ k. some (i_word k))) (λ k. some (i_num k)) ≡ some (i_col x)
column_leaf a b n p x e f g h = rw (sym e, sym f, sym g, h)
