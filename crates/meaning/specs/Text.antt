-- From bytes to a question: lines, the pieces of a line, expressions, steps, tables.
use Rattle.std.specs.Prelude.{ℕ, zero, suc, ◌+◌, ◌-◌, ◌*◌, Bool, true, false, cond, not, ◌&&◌, ◌||◌, List, [], ◌∷◌, ◌++◌, length, codes, ◌==◌, nat_le, nat_lt}
use Rattle.std.proofs.Math.Option.{Option, some, none}
use Rattle.meaning.specs.Base.{map_or, and_then, or_else, when, each, Bytes, same_bytes, among}
use Rattle.meaning.specs.Values.{Ty, t_num, t_word, num_limit, word_number, Op, op_arith, op_compare, op_logic, op_add, op_sub, op_mul, op_div, op_rem, op_eq, op_ne, op_lt, op_le, op_and, op_or, Expr, e_num, e_word, e_null, e_col, e_op, e_not, e_none, e_if}
use Rattle.meaning.specs.Steps.{StoredCol, Decl, Agg, a_sum, a_count, a_min, a_max, a_first, NamedAgg, SortKey, Step, s_keep, s_make, s_pick, s_join, s_group, s_order, s_take, s_skip, s_unite, s_distinct, Question}

-- The pieces of a line are words of letters, digits and _; == != <=; a word of data between quotes; and other bytes
-- by themselves.
-- Blanks, returns and tabs are between pieces. From # to the end of a line there is a note.

-- is a byte a digit
abbrev pub is_digit : ℕ → Bool
is_digit byte = nat_le 48 byte && nat_le byte 57

-- is a byte part of a word: a letter, _ or a digit
abbrev pub is_word_byte : ℕ → Bool
is_word_byte byte = (nat_le 97 byte && nat_le byte 122) || ((nat_le 65 byte && nat_le byte 90) || (byte == 95 || is_digit byte))

-- is a byte a blank, a return or a tab
abbrev pub is_blank : ℕ → Bool
is_blank byte = byte == 32 || (byte == 13 || byte == 9)

-- where in a line a byte is met: between pieces, in a word, between quotes, behind one of = ! < that may go on, or
-- in a note
pub data CutState : Type 0 where
  between : CutState
  inside_word : Bytes → CutState
  inside_quotes : Bytes → CutState
  half_sign : ℕ → CutState
  in_note : CutState

-- the pieces that a byte ends, and where the line is behind it
pub record Cut : Type 0 where
  pub pieces : List Bytes
  pub state : CutState

-- a cut of these
abbrev pub cut_then : List Bytes → CutState → Cut
cut_then ended at = record { pieces = ended; state = at }

-- a byte that belongs to no piece that has begun: a blank, #, the first of a word, a quote, = ! or <, or a piece by
-- itself
abbrev pub begin_piece : List Bytes → ℕ → Cut
begin_piece ended byte =
    cond (is_blank byte) (cut_then ended between)
    (cond (byte == 35) (cut_then ended in_note)
    (cond (is_word_byte byte) (cut_then ended (inside_word (byte ∷ [])))
    (cond (byte == 39) (cut_then ended (inside_quotes (byte ∷ [])))
    (cond (byte == 61 || (byte == 33 || byte == 60)) (cut_then ended (half_sign byte))
    (cut_then (ended ++ ((byte ∷ []) ∷ [])) between)))))

-- a byte wherever it is met; a piece from quotes keeps the first of them, to tell it from a word
abbrev pub next_byte : CutState → ℕ → Cut
next_byte between byte = begin_piece [] byte
next_byte (inside_word piece) byte =
    cond (is_word_byte byte) (cut_then [] (inside_word (piece ++ (byte ∷ [])))) (begin_piece (piece ∷ []) byte)
next_byte (inside_quotes piece) byte =
    cond (byte == 39) (cut_then (piece ∷ []) between) (cut_then [] (inside_quotes (piece ++ (byte ∷ []))))
next_byte (half_sign sign) byte =
    cond (byte == 61) (cut_then ((sign ∷ 61 ∷ []) ∷ []) between) (begin_piece ((sign ∷ []) ∷ []) byte)
next_byte in_note byte = cut_then [] in_note

-- the pieces that the end of a line ends; quotes that are not closed are two quotes, which stand beside each other
-- nowhere
abbrev pub last_pieces : CutState → List Bytes
last_pieces between = []
last_pieces (inside_word piece) = piece ∷ []
last_pieces (inside_quotes piece) = (39 ∷ []) ∷ (39 ∷ []) ∷ []
last_pieces (half_sign sign) = (sign ∷ []) ∷ []
last_pieces in_note = []

-- the pieces of the rest of a line
abbrev pub cut_line : CutState → List ℕ → List Bytes
cut_line at [] = last_pieces at
cut_line at (byte ∷ bytes) = let c = next_byte at byte in c.pieces ++ cut_line c.state bytes

-- the lines of a text, which end at byte 10; begun is what the first has already
abbrev pub lines_of : List ℕ → List ℕ → List (List ℕ)
lines_of begun [] = begun ∷ []
lines_of begun (byte ∷ bytes) =
    cond (byte == 10) (begun ∷ lines_of [] bytes) (lines_of (begun ++ (byte ∷ [])) bytes)

-- the words of the language, which are no names
abbrev pub reserved_words : List Bytes
reserved_words =
    each codes
    ("table" ∷ "num" ∷ "word" ∷ "from" ∷ "keep" ∷ "make" ∷ "pick" ∷ "join" ∷ "left" ∷ "on" ∷ "group" ∷ "order"
    ∷ "take" ∷ "skip" ∷ "unite" ∷ "distinct" ∷ "sum" ∷ "count" ∷ "min" ∷ "max" ∷ "first" ∷ "and" ∷ "or" ∷ "not"
    ∷ "none" ∷ "if" ∷ "then" ∷ "else" ∷ [])

-- the first byte of a piece
abbrev pub head_byte : Bytes → ℕ
head_byte [] = 0
head_byte (byte ∷ bytes) = byte

-- does a piece begin with a digit
abbrev pub starts_with_digit : Bytes → Bool
starts_with_digit piece = is_digit (head_byte piece)

-- is a piece a name: a word that begins with no digit and is not reserved
abbrev pub is_name : Bytes → Bool
is_name piece = is_word_byte (head_byte piece) && (not (starts_with_digit piece) && not (among piece reserved_words))

-- digits behind a number, as a number
abbrev pub digits : ℕ → Bytes → Option ℕ
digits acc [] = some acc
digits acc (byte ∷ bytes) = cond (is_digit byte) (digits (acc * 10 + (byte - 48)) bytes) none

-- a piece as a number below 2^63
abbrev pub as_number : Bytes → Option ℕ
as_number piece =
    when (starts_with_digit piece) (and_then (digits 0 piece) (λ n. when (nat_lt n num_limit) (some n)))

-- a piece as a word of data, of at most seven bytes between quotes
abbrev pub as_word : Bytes → Option ℕ
as_word [] = none
as_word (byte ∷ bytes) = when (byte == 39 && nat_le (length bytes) 7) (some (word_number bytes))

-- what was read from pieces, and the pieces behind it
pub record Parsed (A : Type 0) : Type 0 where
  pub value_read : A
  pub rest : List Bytes

-- a reading that came to these
abbrev pub parsed : {A : Type 0} → A → List Bytes → Option (Parsed A)
parsed a line = some (record { value_read = a; rest = line })

-- read on behind a reading
abbrev pub then_read : {A C : Type 0} → Option (Parsed A) → (A → List Bytes → Option C) → Option C
then_read before go = and_then before (λ p. go p.value_read p.rest)

-- read on behind a given piece, which has to come next
abbrev pub expect : {C : Type 0} → Bytes → List Bytes → (List Bytes → Option C) → Option C
expect piece [] go = none
expect piece (x ∷ line) go = cond (same_bytes piece x) (go line) none

-- what was read, if nothing comes behind it
abbrev pub at_end : {A : Type 0} → A → List Bytes → Option A
at_end a [] = some a
at_end a (piece ∷ line) = none

-- what a reading of a whole line came to
abbrev pub read_to_end : {A : Type 0} → Option (Parsed A) → Option A
read_to_end before = then_read before (λ a line. at_end a line)

-- the next piece; empty at the end of a line
abbrev pub head_piece : List Bytes → Bytes
head_piece [] = []
head_piece (x ∷ line) = x

-- the pieces behind the next
abbrev pub tail_pieces : List Bytes → List Bytes
tail_pieces [] = []
tail_pieces (x ∷ line) = line

-- a name
abbrev pub read_name : List Bytes → Option (Parsed Bytes)
read_name [] = none
read_name (x ∷ line) = cond (is_name x) (parsed x line) none

-- a number
abbrev pub read_number : List Bytes → Option (Parsed ℕ)
read_number [] = none
read_number (x ∷ line) = and_then (as_number x) (λ n. parsed n line)

-- a type: num or word
abbrev pub read_type : List Bytes → Option (Parsed Ty)
read_type [] = none
read_type (x ∷ line) =
    cond (same_bytes x (codes "num")) (parsed t_num line) (cond (same_bytes x (codes "word")) (parsed t_word line) none)

-- Expressions have levels, from loose to tight: if; 1 or; 2 and; 3 not, and at most one comparison; 4 sums; 5
-- products; 6 primaries.

-- the operator of a level that a piece is, if it is one
abbrev pub level_op : ℕ → Bytes → Option Op
level_op lev piece =
    cond (lev == 1) (when (same_bytes piece (codes "or")) (some (op_logic op_or)))
    (cond (lev == 2) (when (same_bytes piece (codes "and")) (some (op_logic op_and)))
    (cond (lev == 4)
    (or_else (when (same_bytes piece (codes "+")) (some (op_arith op_add)))
    (when (same_bytes piece (codes "-")) (some (op_arith op_sub))))
    (cond (lev == 5)
    (or_else (when (same_bytes piece (codes "*")) (some (op_arith op_mul)))
    (or_else (when (same_bytes piece (codes "/")) (some (op_arith op_div)))
    (when (same_bytes piece (codes "%")) (some (op_arith op_rem)))))
    none)))

-- the comparison that a piece is, if it is one
abbrev pub comparison_op : Bytes → Option Op
comparison_op piece =
    or_else (when (same_bytes piece (codes "==")) (some (op_compare op_eq)))
    (or_else (when (same_bytes piece (codes "!=")) (some (op_compare op_ne)))
    (or_else (when (same_bytes piece (codes "<")) (some (op_compare op_lt)))
    (when (same_bytes piece (codes "<=")) (some (op_compare op_le)))))

-- the readers of expressions call each other; the first argument bounds how deep, and is `fuel` of the line at first
abbrev mutual
  -- an expression: if .. then .. else .., or one of level 1
  pub expression : ℕ → List Bytes → Option (Parsed Expr)
  expression zero line = none
  expression (suc n) line =
      cond (same_bytes (head_piece line) (codes "if"))
      (then_read (expression n (tail_pieces line)) (λ a line1. expect (codes "then") line1 (λ line2.
      then_read (expression n line2) (λ b line3. expect (codes "else") line3 (λ line4.
      then_read (expression n line4) (λ c line5. parsed (e_if a b c) line5))))))
      (at_level n 1 line)

  -- an expression of a level
  pub at_level : ℕ → ℕ → List Bytes → Option (Parsed Expr)
  at_level zero lev line = none
  at_level (suc n) lev line =
      cond (lev == 6) (primary n line)
      (cond (lev == 3) (comparison_at n line)
      (then_read (at_level n (lev + 1) line) (λ a line1. op_chain n lev a line1)))

  -- not, or a sum that may be compared with another
  pub comparison_at : ℕ → List Bytes → Option (Parsed Expr)
  comparison_at zero line = none
  comparison_at (suc n) line =
      cond (same_bytes (head_piece line) (codes "not"))
      (then_read (comparison_at n (tail_pieces line)) (λ a line1. parsed (e_not a) line1))
      (then_read (at_level n 4 line) (λ a line1.
      map_or (comparison_op (head_piece line1)) (parsed a line1) (λ o.
      then_read (at_level n 4 (tail_pieces line1)) (λ b line2. parsed (e_op o a b) line2))))

  -- operators of a level and their right sides, behind a left side; they group to the left
  pub op_chain : ℕ → ℕ → Expr → List Bytes → Option (Parsed Expr)
  op_chain zero lev a line = none
  op_chain (suc n) lev a line =
      map_or (level_op lev (head_piece line)) (parsed a line) (λ o.
      then_read (at_level n (lev + 1) (tail_pieces line)) (λ b line1. op_chain n lev (e_op o a b) line1))

  -- a primary: (..), none(..), none num, none word, a number, a word of data, a column
  pub primary : ℕ → List Bytes → Option (Parsed Expr)
  primary zero line = none
  primary (suc n) [] = none
  primary (suc n) (piece ∷ line) =
      cond (same_bytes piece (codes "("))
      (then_read (expression n line) (λ a line1. expect (codes ")") line1 (λ line2. parsed a line2)))
      (cond (same_bytes piece (codes "none"))
      (cond (same_bytes (head_piece line) (codes "("))
      (then_read (expression n (tail_pieces line)) (λ a line1. expect (codes ")") line1 (λ line2. parsed (e_none a) line2)))
      (then_read (read_type line) (λ t line1. parsed (e_null t) line1)))
      (map_or (as_number piece)
      (map_or (as_word piece) (cond (is_name piece) (parsed (e_col piece) line) none) (λ w. parsed (e_word w) line))
      (λ n. parsed (e_num n) line)))

-- so deep the readers of expressions go at most
abbrev pub fuel : List Bytes → ℕ
fuel line = 16 * (2 + length line)

-- at most n names, to the end of a line
abbrev pub read_names : ℕ → List Bytes → Option (List Bytes)
read_names n [] = some []
read_names zero (x ∷ line) = none
read_names (suc n) (x ∷ line) = when (is_name x) (and_then (read_names n line) (λ more. some (x ∷ more)))

-- at most n columns to order by, - before those that go downwards, to the end of a line
abbrev pub read_keys : ℕ → List Bytes → Option (List SortKey)
read_keys n [] = some []
read_keys zero (x ∷ line) = none
read_keys (suc n) (x ∷ line) =
    cond (same_bytes x (codes "-"))
    (then_read (read_name line) (λ y line1.
    and_then (read_keys n line1) (λ more. some (record { name = y; descending = true } ∷ more))))
    (when (is_name x) (and_then (read_keys n line) (λ more. some (record { name = x; descending = false } ∷ more))))

-- an aggregate: count, or sum, min, max or first of a column
abbrev pub read_agg : List Bytes → Option (Parsed Agg)
read_agg [] = none
read_agg (piece ∷ line) =
    cond (same_bytes piece (codes "count")) (parsed a_count line)
    (cond (same_bytes piece (codes "sum")) (then_read (read_name line) (λ x line1. parsed (a_sum x) line1))
    (cond (same_bytes piece (codes "min")) (then_read (read_name line) (λ x line1. parsed (a_min x) line1))
    (cond (same_bytes piece (codes "max")) (then_read (read_name line) (λ x line1. parsed (a_max x) line1))
    (cond (same_bytes piece (codes "first")) (then_read (read_name line) (λ x line1. parsed (a_first x) line1))
    none))))

-- at least one and at most n named aggregates, as s = sum x, n = count, to the end of a line
abbrev pub read_aggs : ℕ → List Bytes → Option (List NamedAgg)
read_aggs zero line = none
read_aggs (suc n) line =
    then_read (read_name line) (λ x line1. expect (codes "=") line1 (λ line2. then_read (read_agg line2) (λ a line3.
    cond (same_bytes (head_piece line3) (codes ","))
    (and_then (read_aggs n (tail_pieces line3)) (λ aggs. some (record { name = x; agg = a } ∷ aggs)))
    (at_end (record { name = x; agg = a } ∷ []) line3))))

-- fewer than n names, and the colon behind them
abbrev pub names_to_colon : ℕ → List Bytes → Option (Parsed (List Bytes))
names_to_colon zero line = none
names_to_colon (suc n) [] = none
names_to_colon (suc n) (x ∷ line) =
    cond (same_bytes x (codes ":")) (parsed [] line)
    (when (is_name x) (then_read (names_to_colon n line) (λ more line1. parsed (x ∷ more) line1)))

-- at most n columns of a declared table, as a num 0 b word 2, to the end of a line
abbrev pub read_columns : ℕ → List Bytes → Option (List StoredCol)
read_columns n [] = some []
read_columns zero (x ∷ line) = none
read_columns (suc n) (x ∷ line) =
    when (is_name x) (then_read (read_type line) (λ t line1. then_read (read_number line1) (λ page line2.
    and_then (read_columns n line2) (λ more. some (record { col = record { name = x; ty = t }; page = page } ∷ more)))))

-- a join behind its first words: t on x = y
abbrev pub join_line : Bool → List Bytes → Option Step
join_line stay line =
    then_read (read_name line) (λ n line1. expect (codes "on") line1 (λ line2.
    then_read (read_name line2) (λ x line3. expect (codes "=") line3 (λ line4.
    then_read (read_name line4) (λ y line5. at_end (s_join n x y stay) line5)))))

-- a step, by its first piece and those behind it
abbrev pub step_line : Bytes → List Bytes → Option Step
step_line piece line =
    cond (same_bytes piece (codes "keep"))
    (and_then (read_to_end (expression (fuel line) line)) (λ e. some (s_keep e)))
    (cond (same_bytes piece (codes "make"))
    (then_read (read_name line) (λ x line1. expect (codes "=") line1 (λ line2.
    and_then (read_to_end (expression (fuel line2) line2)) (λ e. some (s_make x e)))))
    (cond (same_bytes piece (codes "pick")) (and_then (read_names (length line) line) (λ xs. some (s_pick xs)))
    (cond (same_bytes piece (codes "join")) (join_line false line)
    (cond (same_bytes piece (codes "left")) (expect (codes "join") line (λ line1. join_line true line1))
    (cond (same_bytes piece (codes "group"))
    (then_read (names_to_colon (suc (length line)) line) (λ xs line1.
    and_then (read_aggs (suc (length line1)) line1) (λ aggs. some (s_group xs aggs))))
    (cond (same_bytes piece (codes "order")) (and_then (read_keys (length line) line) (λ ks. some (s_order ks)))
    (cond (same_bytes piece (codes "take")) (and_then (read_to_end (read_number line)) (λ n. some (s_take n)))
    (cond (same_bytes piece (codes "skip")) (and_then (read_to_end (read_number line)) (λ n. some (s_skip n)))
    (cond (same_bytes piece (codes "unite")) (and_then (read_to_end (read_name line)) (λ n. some (s_unite n)))
    (cond (same_bytes piece (codes "distinct")) (at_end s_distinct line)
    none))))))))))

-- a declared table behind the word table: its name, its number of rows, its columns
abbrev pub table_line : List Bytes → Option Decl
table_line line =
    then_read (read_name line) (λ x line1. then_read (read_number line1) (λ n line2.
    and_then (read_columns (length line2) line2) (λ more. some (record { name = x; rows = n; cols = more }))))

-- steps, a line each; lines without pieces say nothing
abbrev pub step_lines : List (List Bytes) → Option (List Step)
step_lines [] = some []
step_lines ([] ∷ lines) = step_lines lines
step_lines ((piece ∷ line) ∷ lines) =
    and_then (step_line piece line) (λ s. and_then (step_lines lines) (λ more. some (s ∷ more)))

-- a question, behind the tables ds: more tables, then from, then the steps
abbrev pub question_lines : List Decl → List (List Bytes) → Option Question
question_lines ds [] = none
question_lines ds ([] ∷ lines) = question_lines ds lines
question_lines ds ((piece ∷ line) ∷ lines) =
    cond (same_bytes piece (codes "table"))
    (and_then (table_line line) (λ d. question_lines (ds ++ (d ∷ [])) lines))
    (cond (same_bytes piece (codes "from"))
    (and_then (read_to_end (read_name line)) (λ x.
    and_then (step_lines lines) (λ more. some (record { decls = ds; from = x; steps = more }))))
    none)

-- the pieces of lines
abbrev pub cut_lines : List (List ℕ) → List (List Bytes)
cut_lines [] = []
cut_lines (line ∷ lines) = cut_line between line ∷ cut_lines lines

-- the question that a text asks, if it asks one
abbrev pub reads : List ℕ → Option Question
reads text = question_lines [] (cut_lines (lines_of [] text))
