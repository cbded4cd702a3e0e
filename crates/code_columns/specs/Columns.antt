-- The columns in code: which it names, and their numbers in a table that has only some.
use Rattle.std.specs.Prelude.{◌≡◌, ℕ, ◌<◌, Bool, true, false, cond, List, length, ◌==◌, nat_lt}
use Rattle.meaning.specs.Base.{each, Bytes, among, all_different}
use Rattle.meaning.specs.Values.{Expr, Col, names_in}
use Rattle.meaning.specs.Steps.{col_names}
use Rattle.projection.specs.Projected.{project_cols}
use Rattle.column_set.specs.Membership.{count_before, Marks}
use Rattle.column_set.specs.declared.ColumnSet.{ColumnSet}
use Rattle.code.specs.Postfix.{Instr, i_num, i_word, i_null, i_col, i_op, i_not, i_none, i_if, map_col, col_index, code_for}
use Rattle.code.specs.Words.{code_in}

-- does an instruction name the k-th column
abbrev pub names_col : ℕ → Instr ℕ → Bool
names_col k (i_num n) = false
names_col k (i_word n) = false
names_col k (i_null t) = false
names_col k (i_col i) = i == k
names_col k (i_op o) = false
names_col k i_not = false
names_col k i_none = false
names_col k i_if = false

-- the set has the columns that each expression names that the code in words ws stands for
abbrev pub Named : List ℕ → ColumnSet → Type 0
Named ws set = (cs : List Col) (e : Expr) → code_in ws ≡ code_for cs e → length cs ≡ set.width → all_different (col_names cs) ≡ true → Marks set.bits (names_in e) cs

-- the number of column i among those of a set
abbrev pub new_index : ColumnSet → ℕ → ℕ
new_index set i = cond (nat_lt i set.width) (count_before set.bits i) i

-- the names in an expression are all names of columns, and among us
abbrev pub NamesUsed : List Bytes → List Col → Expr → Type 0
NamesUsed us cs e = (x : Bytes) → among x (names_in e) ≡ true → (among x us ≡ true) × (col_index cs x < length cs)

-- code in words ws over all columns has become code in words vs over those of a set
pub record Projected (ws : List ℕ) (used : ColumnSet) (vs : List ℕ) : Type 0 where
  pub length_is : length vs ≡ length ws
  pub code_is : code_in vs ≡ each (map_col (new_index used)) (code_in ws)
  pub stands_for : (us : List Bytes) (cs : List Col) (e : Expr) → code_in ws ≡ code_for cs e → length cs ≡ used.width → Marks used.bits us cs → NamesUsed us cs e → code_in vs ≡ code_for (project_cols us cs) e
