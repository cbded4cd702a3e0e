-- Tables on pages; which questions are sound, and what a question comes to.
use Rattle.std.specs.Prelude.{ℕ, zero, suc, ◌+◌, ◌/◌, ◌%◌, Bool, false, cond, ◌&&◌, List, [], ◌∷◌, length, take, drop, nat_lt}
use Rattle.std.proofs.Math.Option.{Option, some}
use Rattle.meaning.specs.Base.{map_or, and_then, is_some, nth, each}
use Rattle.meaning.specs.Values.{Value, null, cell_value, Row}
use Rattle.meaning.specs.Steps.{StoredCol, Decl, Question, Table, table, Catalog, find_decl, apply_steps}
use Rattle.meaning.specs.Plan.{decl_cols, cols_of_table, cols_after_all, valid_decls}

-- pages, each a list of its words of 64 bits
abbrev pub Pages : Type 0
Pages = List (List ℕ)

-- at most n pages of 512 words each, cut from words
abbrev pub cut_pages : ℕ → List ℕ → Pages
cut_pages zero ws = []
cut_pages (suc n) ws = cond (nat_lt (length ws) 512) [] (take 512 ws ∷ cut_pages n (drop 512 ws))

-- words as pages; what is left over at the end is on no page
abbrev pub paged : List ℕ → Pages
paged ws = cut_pages (length ws) ws

-- the cell of row i in a column that begins on page p, if there is such a page
abbrev pub cell_at : Pages → ℕ → ℕ → Option ℕ
cell_at ps p i = and_then (nth ps (p + i / 512)) (λ ws. nth ws (i % 512))

-- the value of row i in a stored column; what is no cell of its type, or not there, is null
abbrev pub value_at : Pages → StoredCol → ℕ → Value
value_at ps s i = map_or (and_then (cell_at ps s.page i) (cell_value s.col.ty)) null (λ v. v)

-- row i of stored columns
abbrev pub row_at : Pages → List StoredCol → ℕ → Row
row_at ps ss i = each (λ s. value_at ps s i) ss

-- k numbers, from n on
abbrev pub numbers_from : ℕ → ℕ → List ℕ
numbers_from zero n = []
numbers_from (suc k) n = n ∷ numbers_from k (suc n)

-- a declared table, as it lies on pages
abbrev pub stored_table : Pages → Decl → Table
stored_table ps d = table (decl_cols d) (each (row_at ps d.cols) (numbers_from d.rows 0))

-- the declared tables by their names
abbrev pub catalog : Pages → List Decl → Catalog
catalog ps ds n = and_then (find_decl ds n) (λ d. some (stored_table ps d))

-- is a question sound: its tables are valid and lie below page b, the border; the one that it begins from is there;
-- each step fits
abbrev pub sound : ℕ → Question → Bool
sound b q =
    valid_decls b [] q.decls
    && map_or (cols_of_table q.decls q.from) false (λ cs. is_some (cols_after_all q.decls cs q.steps))

-- what a question comes to
abbrev pub answer : Pages → Question → Option Table
answer ps q = and_then (catalog ps q.decls q.from) (λ t. apply_steps (catalog ps q.decls) t q.steps)
