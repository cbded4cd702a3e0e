-- Values, expressions, and what an expression comes to on a row.
use Rattle.std.specs.Prelude.{ℕ, zero, suc, ◌+◌, ◌-◌, ◌*◌, ◌/◌, ◌%◌, Bool, true, false, cond, not, ◌&&◌, List, [], ◌∷◌, ◌++◌, ◌==◌, nat_le, nat_lt}
use Rattle.std.proofs.Math.Option.{Option, some, none}
use Rattle.meaning.specs.Base.{and_then, when, Bytes, same_bytes}

-- null; a number below 2^63; a word of at most seven bytes, by its number below 2^56
pub data Value : Type 0 where
  null : Value
  num : ℕ → Value
  word : ℕ → Value

-- the types: of columns, and of what an expression comes to
pub data Ty : Type 0 where
  t_num : Ty
  t_word : Ty

-- are two types equal
abbrev pub same_type : Ty → Ty → Bool
same_type t_num t_num = true
same_type t_num t_word = false
same_type t_word t_num = false
same_type t_word t_word = true

-- 2^63: numbers are below it
abbrev pub num_limit : ℕ
num_limit = 9223372036854775808

-- 2^56: the numbers of words are below it
abbrev pub word_limit : ℕ
word_limit = 72057594037927936

-- bytes as digits of base 256 behind a number, n digits in all, missing ones 0
abbrev pub base_256 : ℕ → List ℕ → ℕ → ℕ
base_256 zero bytes acc = acc
base_256 (suc n) [] acc = base_256 n [] (256 * acc)
base_256 (suc n) (byte ∷ bytes) acc = base_256 n bytes (256 * acc + byte)

-- the number of a word: seven digits, the first byte the highest; so words are ordered byte by byte
abbrev pub word_number : List ℕ → ℕ
word_number bytes = base_256 7 bytes 0

-- null on a page: 2^64 less 1
abbrev pub null_cell : ℕ
null_cell = 18446744073709551615

-- a value on a page: a number is itself, a word is 2^63 and its number
abbrev pub cell : Value → ℕ
cell null = null_cell
cell (num n) = n
cell (word n) = num_limit + n

-- the value other than null that a cell of a column of this type holds, if it holds one
abbrev pub non_null_value : Ty → ℕ → Option Value
non_null_value t_num n = when (nat_lt n num_limit) (some (num n))
non_null_value t_word n = when (nat_le num_limit n && nat_lt (n - num_limit) word_limit) (some (word (n - num_limit)))

-- the value that a cell of a column of this type holds, if it holds one
abbrev pub cell_value : Ty → ℕ → Option Value
cell_value t n = cond (n == null_cell) (some null) (non_null_value t n)

-- operators on two numbers: + - * / %
pub data Arith : Type 0 where
  op_add : Arith
  op_sub : Arith
  op_mul : Arith
  op_div : Arith
  op_rem : Arith

-- operators on two values of one type: == != < <=
pub data Compare : Type 0 where
  op_eq : Compare
  op_ne : Compare
  op_lt : Compare
  op_le : Compare

-- operators on two truths: and, or
pub data Logic : Type 0 where
  op_and : Logic
  op_or : Logic

-- any operator on two values
pub data Op : Type 0 where
  op_arith : Arith → Op
  op_compare : Compare → Op
  op_logic : Logic → Op

-- expressions: a number, a word, a null of a type, a column, an operator, not, none(..), if .. then .. else
pub data Expr : Type 0 where
  e_num : ℕ → Expr
  e_word : ℕ → Expr
  e_null : Ty → Expr
  e_col : Bytes → Expr
  e_op : Op → Expr → Expr → Expr
  e_not : Expr → Expr
  e_none : Expr → Expr
  e_if : Expr → Expr → Expr → Expr

-- a column
pub record Col : Type 0 where
  pub name : Bytes
  pub ty : Ty

-- a row: a value for each column
abbrev pub Row : Type 0
Row = List Value

-- the type of the first column of this name
abbrev pub col_type : List Col → Bytes → Option Ty
col_type [] x = none
col_type (c ∷ cs) x = cond (same_bytes c.name x) (some c.ty) (col_type cs x)

-- the value of a row in the first column of this name; null if there is none
abbrev pub get : List Col → Row → Bytes → Value
get [] r x = null
get (c ∷ cs) [] x = null
get (c ∷ cs) (v ∷ r) x = cond (same_bytes c.name x) v (get cs r x)

-- a number, or null if it is too large
abbrev pub num_or_null : ℕ → Value
num_or_null n = cond (nat_lt n num_limit) (num n) null

-- arithmetic: what is too large, below 0 or divided by 0 is null
abbrev pub by_arith : Arith → ℕ → ℕ → Value
by_arith op_add x y = num_or_null (x + y)
by_arith op_sub x y = cond (nat_lt x y) null (num (x - y))
by_arith op_mul x y = num_or_null (x * y)
by_arith op_div x y = cond (y == 0) null (num (x / y))
by_arith op_rem x y = cond (y == 0) null (num (x % y))

-- a comparison of two numbers, also of those of two words
abbrev pub by_compare : Compare → ℕ → ℕ → Bool
by_compare op_eq x y = x == y
by_compare op_ne x y = not (x == y)
by_compare op_lt x y = nat_lt x y
by_compare op_le x y = nat_le x y

-- three-valued logic
pub data Truth : Type 0 where
  yes : Truth
  no : Truth
  unknown : Truth

-- is a value true: a number is if it isn't 0, and of null it is unknown
abbrev pub truth : Value → Truth
truth null = unknown
truth (num n) = cond (n == 0) no yes
truth (word n) = unknown

-- a truth as a value: 1, 0 or null
abbrev pub of_truth : Truth → Value
of_truth yes = num 1
of_truth no = num 0
of_truth unknown = null

-- and: no if one is no, else unknown if one is unknown
abbrev pub and3 : Truth → Truth → Truth
and3 yes t = t
and3 no t = no
and3 unknown yes = unknown
and3 unknown no = no
and3 unknown unknown = unknown

-- or: yes if one is yes, else unknown if one is unknown
abbrev pub or3 : Truth → Truth → Truth
or3 yes t = yes
or3 no t = t
or3 unknown yes = yes
or3 unknown no = unknown
or3 unknown unknown = unknown

-- not: of unknown it is unknown
abbrev pub not3 : Truth → Truth
not3 yes = no
not3 no = yes
not3 unknown = unknown

-- if: of unknown it is null
abbrev pub if3 : Truth → Value → Value → Value
if3 yes a b = a
if3 no a b = b
if3 unknown a b = null

-- and, or
abbrev pub by_logic : Logic → Truth → Truth → Truth
by_logic op_and s t = and3 s t
by_logic op_or s t = or3 s t

-- f on two numbers; null where one is null
abbrev pub on_nums : (ℕ → ℕ → Value) → Value → Value → Value
on_nums f null w = null
on_nums f (num x) null = null
on_nums f (num x) (num y) = f x y
on_nums f (num x) (word y) = null
on_nums f (word x) w = null

-- f on two words; null where one is null
abbrev pub on_words : (ℕ → ℕ → Value) → Value → Value → Value
on_words f null w = null
on_words f (num x) w = null
on_words f (word x) null = null
on_words f (word x) (num y) = null
on_words f (word x) (word y) = f x y

-- a test as a value: 1 or 0
abbrev pub bit : Bool → Value
bit b = cond b (num 1) (num 0)

-- a comparison of two values of one type; null where one is null
abbrev pub by_comparison : Compare → Value → Value → Value
by_comparison o null w = null
by_comparison o (num x) w = on_nums (λ x y. bit (by_compare o x y)) (num x) w
by_comparison o (word x) w = on_words (λ x y. bit (by_compare o x y)) (word x) w

-- what an operator comes to on two values
abbrev pub apply_op : Op → Value → Value → Value
apply_op (op_arith o) v w = on_nums (by_arith o) v w
apply_op (op_compare o) v w = by_comparison o v w
apply_op (op_logic o) v w = of_truth (by_logic o (truth v) (truth w))

-- none(..): 1 of null, else 0
abbrev pub is_null : Value → Value
is_null null = num 1
is_null (num n) = num 0
is_null (word n) = num 0

-- what an expression comes to on a row with columns cs
abbrev pub eval : List Col → Row → Expr → Value
eval cs r (e_num n) = num n
eval cs r (e_word n) = word n
eval cs r (e_null t) = null
eval cs r (e_col x) = get cs r x
eval cs r (e_op o a b) = apply_op o (eval cs r a) (eval cs r b)
eval cs r (e_not a) = of_truth (not3 (truth (eval cs r a)))
eval cs r (e_none a) = is_null (eval cs r a)
eval cs r (e_if a b c) = if3 (truth (eval cs r a)) (eval cs r b) (eval cs r c)

-- p, if there is a type o and it is t
abbrev pub expect_type : Option Ty → Ty → Option Ty → Option Ty
expect_type o t p = and_then o (λ u. when (same_type u t) p)

-- the type of an operator on two types: arithmetic and logic take numbers, a comparison two of one type
abbrev pub op_type : Op → Option Ty → Option Ty → Option Ty
op_type (op_arith o) s t = expect_type s t_num (expect_type t t_num (some t_num))
op_type (op_compare o) s t = and_then s (λ u. expect_type t u (some t_num))
op_type (op_logic o) s t = expect_type s t_num (expect_type t t_num (some t_num))

-- the type of an expression over columns cs, if it has one
abbrev pub type_of : List Col → Expr → Option Ty
type_of cs (e_num n) = some t_num
type_of cs (e_word n) = some t_word
type_of cs (e_null t) = some t
type_of cs (e_col x) = col_type cs x
type_of cs (e_op o a b) = op_type o (type_of cs a) (type_of cs b)
type_of cs (e_not a) = expect_type (type_of cs a) t_num (some t_num)
type_of cs (e_none a) = and_then (type_of cs a) (λ t. some t_num)
type_of cs (e_if a b c) =
    expect_type (type_of cs a) t_num (and_then (type_of cs b) (λ t. expect_type (type_of cs c) t (some t)))

-- the columns that an expression names
abbrev pub names_in : Expr → List Bytes
names_in (e_num n) = []
names_in (e_word n) = []
names_in (e_null t) = []
names_in (e_col x) = x ∷ []
names_in (e_op o a b) = names_in a ++ names_in b
names_in (e_not a) = names_in a
names_in (e_none a) = names_in a
names_in (e_if a b c) = names_in a ++ (names_in b ++ names_in c)
