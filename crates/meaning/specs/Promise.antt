-- What the call promises: how much it may read and touch, where an answer lies, and what holds in each of its five
-- outcomes.
use Rattle.std.specs.Prelude.{◌≡◌, ℕ, zero, suc, ◌+◌, ◌*◌, ◌/◌, ◌<◌, ◌≤◌, true, false, cond, ◌⊎◌, List, [], ◌∷◌, length, take, ◌==◌}
use Rattle.std.proofs.Math.Option.{some, none}
use Rattle.meaning.specs.Base.{map_or, nth}
use Rattle.meaning.specs.Values.{Value, cell, num_limit, Row}
use Rattle.meaning.specs.Steps.{Step, Question, Table, Catalog, apply_step}
use Rattle.meaning.specs.Plan.{pages_for, pages_read, of_named}
use Rattle.meaning.specs.Pages.{Pages, cell_at, catalog, sound, answer}
use Rattle.meaning.specs.Text.{reads}

-- the rows of the table that a step names
abbrev pub named_rows : Catalog → Step → ℕ
named_rows ts s = map_or (of_named ts s) 0 (λ b. length b.rows)

-- the rows of a table, of the tables that steps make of it, and of those that the steps name
abbrev pub rows_steps : Catalog → Table → List Step → ℕ
rows_steps ts t [] = length t.rows
rows_steps ts t (s ∷ ss) =
    length t.rows + (named_rows ts s + map_or (apply_step ts t s) 0 (λ u. rows_steps ts u ss))

-- the rows of all tables of a question: the one that it begins from, the one after each step, those that steps name
abbrev pub rows_all : Pages → Question → ℕ
rows_all ps q = map_or (catalog ps q.decls q.from) 0 (λ t. rows_steps (catalog ps q.decls) t q.steps)

-- the pages of a table with all its columns
abbrev pub whole_pages : Table → ℕ
whole_pages t = length t.cols * pages_for (length t.rows)

-- the pages of a table, of the tables that steps make of it, and of those that the steps name
abbrev pub space_steps : Catalog → Table → List Step → ℕ
space_steps ts t [] = whole_pages t
space_steps ts t (s ∷ ss) =
    whole_pages t + (map_or (of_named ts s) 0 whole_pages + map_or (apply_step ts t s) 0 (λ u. space_steps ts u ss))

-- the pages of all tables of a question, each with all its columns
abbrev pub space : Pages → Question → ℕ
space ps q = map_or (catalog ps q.decls q.from) 0 (λ t. space_steps (catalog ps q.decls) t q.steps)

-- how often a number can be halved until it is 0, at most k times
abbrev pub halvings : ℕ → ℕ → ℕ
halvings zero n = 0
halvings (suc k) n = cond (n == 0) 0 (suc (halvings k (n / 2)))

-- how often pages behind the border may be read and written in all, for r rows of all tables
abbrev pub touches : ℕ → ℕ
touches r = 64 * ((1 + r) * (1 + halvings 64 r))

-- so many words of 64 bits, lent to the call, are enough for a text
abbrev pub enough_words : List ℕ → ℕ
enough_words text = 65536 + 256 * length text

-- so many pages are enough for a question whose tables lie below page b
abbrev pub enough_pages : ℕ → Pages → Question → ℕ
enough_pages b ps q = b + 64 * (4 + (space ps q + pages_for (rows_all ps q)))

-- every page has 512 words of 64 bits
abbrev pub PagesOf512 : Pages → Type 0
PagesOf512 ps = (i : ℕ) (ws : List ℕ) → nth ps i ≡ some ws → length ws ≡ 512

-- as many pages as before, and those below page b unchanged
abbrev pub Kept : Pages → Pages → ℕ → Type 0
Kept ps qs b = (length qs ≡ length ps) × (take b qs ≡ take b ps)

-- a table lies in columns from page p on, one after the other, each from a page of its own, on pages that there are
pub record Lies (ps : Pages) (p : ℕ) (t : Table) : Type 0 where
  pub room : p + length t.cols * pages_for (length t.rows) ≤ length ps
  pub cells :
      (i j : ℕ) (r : Row) (v : Value) → nth t.rows i ≡ some r → nth r j ≡ some v
      → cell_at ps (p + j * pages_for (length t.rows)) i ≡ some (cell v)

-- Below, a call is given a text and w lent words, on pages ps with border b, and leaves pages qs. Pages read below the
-- border number lo before and lo' after; pages read or written behind it, touched for short, number hi and hi'.

-- a text asks the question q, which is sound for tables below page b
pub record Asks (text : List ℕ) (b : ℕ) (q : Question) : Type 0 where
  pub is_read : reads text ≡ some q
  pub is_sound : sound b q ≡ true

-- the call left the store as it was, and counted nothing
pub record Untouched (ps qs : Pages) (lo lo' hi hi' : ℕ) : Type 0 where
  pub same_pages : qs ≡ ps
  pub no_read : lo' ≡ lo
  pub no_touch : hi' ≡ hi

-- no more pages were read below the border, and touched behind it, than the question may
pub record InBounds (ps : Pages) (q : Question) (lo lo' hi hi' : ℕ) : Type 0 where
  pub few_read : lo' ≤ lo + pages_read q.decls q.from q.steps
  pub few_touched : hi' ≤ hi + touches (rows_all ps q)

-- the outcome 'answered': so many rows, which lie from this page on, behind the border, and are the answer
pub record AnsweredWithin (text : List ℕ) (ps qs : Pages) (b lo lo' hi hi' rows page : ℕ) : Type 0 where
  pub question : Question
  pub result : Table
  pub asks : Asks text b question
  pub comes : answer ps question ≡ some result
  pub as_many : rows ≡ length result.rows
  pub behind : b ≤ page
  pub lies : Lies qs page result
  pub bounds : InBounds ps question lo lo' hi hi'

-- the outcome 'too few': w lent words are fewer than enough for the text
pub record RefusedFew (text : List ℕ) (ps qs : Pages) (lo lo' hi hi' w : ℕ) : Type 0 where
  pub too_few : w < enough_words text
  pub untouched : Untouched ps qs lo lo' hi hi'

-- the outcome 'no text': the text asks no question
pub record RefusedText (text : List ℕ) (ps qs : Pages) (lo lo' hi hi' : ℕ) : Type 0 where
  pub no_question : reads text ≡ none
  pub untouched : Untouched ps qs lo lo' hi hi'

-- the outcome 'not sound': the text asks a question that is not sound
pub record RefusedUnsound (text : List ℕ) (ps qs : Pages) (b lo lo' hi hi' : ℕ) : Type 0 where
  pub question : Question
  pub is_read : reads text ≡ some question
  pub unsound : sound b question ≡ false
  pub untouched : Untouched ps qs lo lo' hi hi'

-- the outcome 'no space': there are fewer pages than enough for the question, or its tables have 2^63 rows or more
pub record NoSpace (text : List ℕ) (ps : Pages) (b lo lo' hi hi' : ℕ) : Type 0 where
  pub question : Question
  pub asks : Asks text b question
  pub short : (length ps < enough_pages b ps question) ⊎ (num_limit ≤ rows_all ps question)
  pub bounds : InBounds ps question lo lo' hi hi'
