-- A whole question, from its lines.
use Rattle.std.proofs.Common.{◌≡◌, ℕ, suc, ◌+◌, ◌≤◌, Bool, true, false, cond, eqb, List, [], ◌∷◌, ◌++◌, length, is_err, IsErrAnd, Ok, Err, codes, Option as Given, Result, sym, refl, ap, ◌∙◌, subst, append_assoc, append-nil, arith, Bor}
use mathlib.Core.Option.{Option, some, none}
use borrow.Author.Tests.{clash}
use Rattle.meaning.specs.Base.{map_or, and_then, is_some, Bytes, same_bytes}
use Rattle.meaning.specs.Steps.{Decl, Step, Question as Asked}
use Rattle.meaning.specs.Text.{head_piece, tail_pieces, read_to_end, read_name, step_line, step_lines, table_line, question_lines, reads, lines_of, cut_lines, cut_line, between}
use Rattle.language_pieces.specs.Pieces.{cuts, none_left}
use Rattle.language_pieces.specs.declared.faults.Fault.{Fault}
use Rattle.language_statements.specs.Statements.{lone_name}
use Rattle.language.specs.Lines.{Line, numbered, later, lines_left, left_in}
use Rattle.language.specs.Questions.{pieces, step_in, steps_in, head_in, After, after_tables, tables_in, wrong_step, wrong_in, wrong_line, Blames, BlamesFirst, Read, HeadRead}
use Rattle.language.specs.declared.lines.Lines.{Lines}
use Rattle.language.specs.declared.faults.NotAQuestion.{NotAQuestion}
use Rattle.language.specs.declared.question.Question.{Question}
use Rattle.language.proofs.Heads.{some_of}

-- a refusal
pub no_head : (r : Result (Given (Bor Bytes)) Fault) (o : Option (Option Bytes)) → is_err r ≡ true → o ≡ none → HeadRead r o
no_head (Ok p) o e h = absurd (clash e)
no_head (Err f) o e h = h

-- lines are numbered in a word as they are
counted : (n : ℕ) (ss : List (List ℕ)) → n + length ss ≤ 18446744073709551615 → numbered later n ss ≡ numbered suc n ss
counted n [] h = refl
counted n (s ∷ ss) h =
    let e : later n ≡ suc n = omega arith in
    let q : numbered later (suc n) ss ≡ numbered suc (suc n) ss = counted (suc n) ss (omega arith) in
    ap (λ k. cond (none_left (cuts s)) (numbered later k ss) (record { number = k; bytes = s } ∷ numbered later k ss)) e
    ∙ ap (λ ls. cond (none_left (cuts s)) ls (record { number = suc n; bytes = s } ∷ ls)) q

lines_few : (begun s : List ℕ) → length (lines_of begun s) ≤ length s + 1
lines_few begun [] = omega arith
lines_few begun (b ∷ s) = by (eqb b 10) (lines_few [] s) (lines_few (begun ++ (b ∷ [])) s)
  where
    by : (t : Bool) → length (lines_of [] s) ≤ length s + 1 → length (lines_of (begun ++ (b ∷ [])) s) ≤ length s + 1 → length (cond t (begun ∷ lines_of [] s) (lines_of (begun ++ (b ∷ [])) s)) ≤ length (b ∷ s) + 1
    by true h k = omega arith
    by false h k = omega arith

pub first_lines : (t : List ℕ) (l : Lines) → length t + 1 ≤ 18446744073709551615 → l.number ≡ 0 → lines_left l ≡ lines_of [] t → left_in l ≡ numbered suc 0 (lines_of [] t)
unfolding left_in
first_lines t l h n e =
    ap (λ k. numbered later k (lines_left l)) n ∙ (ap (numbered later 0) e ∙ counted 0 (lines_of [] t) (omega (arith, lines_few [] t)))

-- a question by its parts
abbrev with_parts : List Decl → Option (List Decl) → Option After → Option Asked
with_parts ds t a = and_then t (λ ts. and_then a (λ x. and_then (steps_in x.lines) (λ ss. some (record { decls = ds ++ ts; from = x.name; steps = ss }))))

abbrev whole_of : List Decl → List Line → Option Asked
whole_of ds ls = with_parts ds (tables_in ls) (after_tables ls)

-- the lines of the steps, with and without those that say nothing
steps_line : (k : ℕ) (s : List ℕ) (more : Option (List Step)) (ls : List Line) (x : List Bytes) → cuts s ≡ x → more ≡ steps_in ls → (cs : List (List Bytes)) → step_lines cs ≡ more → step_lines (x ∷ cs) ≡ steps_in (cond (none_left x) ls (record { number = k; bytes = s } ∷ ls))
unfolding step_in
steps_line k s more ls [] e h cs q = q ∙ h
steps_line k s more ls (p ∷ l) e h cs q =
    ap (λ o. and_then (step_line p l) (λ a. and_then o (λ as₁. some (a ∷ as₁)))) (q ∙ h)
    ∙ ap (λ y. and_then (step_line (head_piece y) (tail_pieces y)) (λ a. and_then (steps_in ls) (λ as₁. some (a ∷ as₁)))) (sym e)

steps_are : (n : ℕ) (ss : List (List ℕ)) → step_lines (cut_lines ss) ≡ steps_in (numbered suc n ss)
unfolding cuts
steps_are n [] = refl
steps_are n (s ∷ ss) = steps_line (suc n) s (step_lines (cut_lines ss)) (numbered suc (suc n) ss) (cut_line between s) refl (steps_are (suc n) ss) (cut_lines ss) refl

table_more : (ds : List Decl) (d : Decl) (t : Option (List Decl)) (a : Option After) → with_parts (ds ++ (d ∷ [])) t a ≡ with_parts ds (and_then t (λ ts. some (d ∷ ts))) a
table_more ds d none a = refl
table_more ds d (some ts) a = ap (λ e. and_then a (λ x. and_then (steps_in x.lines) (λ ss. some (record { decls = e; from = x.name; steps = ss })))) (append_assoc ds (d ∷ []) ts)

-- a line with a table
one_table : (ds : List Decl) (o : Option Decl) (f : List Line) (q : Decl → Option Asked) → ((d : Decl) → q d ≡ whole_of (ds ++ (d ∷ [])) f) → and_then o q ≡ with_parts ds (and_then o (λ d. and_then (tables_in f) (λ ts. some (d ∷ ts)))) (and_then (and_then o (λ d. some none)) (λ k. map_or k (after_tables f) (λ n. some (record { name = n; lines = f }))))
one_table ds none f q h = refl
one_table ds (some d) f q h = h d ∙ table_more ds d (tables_in f) (after_tables f)

-- the line with from
one_from : (ds : List Decl) (o : Option Bytes) (cs : List (List Bytes)) (f : List Line) → step_lines cs ≡ steps_in f → and_then o (λ n. and_then (step_lines cs) (λ ss. some (record { decls = ds; from = n; steps = ss }))) ≡ with_parts ds (some []) (and_then (and_then o (λ n. some (some n))) (λ k. map_or k (after_tables f) (λ n. some (record { name = n; lines = f }))))
one_from ds none cs f e = refl
one_from ds (some n) cs f e = ap (λ x. and_then x (λ ss. some (record { decls = ds; from = n; steps = ss }))) e ∙ ap (λ d. and_then (steps_in f) (λ ss. some (record { decls = d; from = n; steps = ss }))) (sym (append-nil ds))

one_line : (ds : List Decl) (p : Bytes) (l : List Bytes) (cs : List (List Bytes)) (f : List Line) (k : Line) → pieces k ≡ p ∷ l → step_lines cs ≡ steps_in f → ((d : Decl) → question_lines (ds ++ (d ∷ [])) cs ≡ whole_of (ds ++ (d ∷ [])) f) → question_lines ds ((p ∷ l) ∷ cs) ≡ whole_of ds (k ∷ f)
unfolding head_in
one_line ds p l cs f k e q h = by (same_bytes p (codes "table")) (same_bytes p (codes "from")) ∙ sym (ap (λ y. with_parts ds (tables_by y) (and_then (head_in y) (λ k. map_or k (after_tables f) (λ n. some (record { name = n; lines = f }))))) e)
  where
    tables_by : List Bytes → Option (List Decl)
    tables_by y = cond (same_bytes (head_piece y) (codes "table")) (and_then (table_line (tail_pieces y)) (λ d. and_then (tables_in f) (λ ts. some (d ∷ ts)))) (some [])

    by : (a b : Bool) → cond a (and_then (table_line l) (λ d. question_lines (ds ++ (d ∷ [])) cs)) (cond b (and_then (read_to_end (read_name l)) (λ n. and_then (step_lines cs) (λ ss. some (record { decls = ds; from = n; steps = ss })))) none) ≡ with_parts ds (cond a (and_then (table_line l) (λ d. and_then (tables_in f) (λ ts. some (d ∷ ts)))) (some [])) (and_then (cond a (and_then (table_line l) (λ d. some none)) (cond b (and_then (read_to_end (read_name l)) (λ n. some (some n))) none)) (λ k. map_or k (after_tables f) (λ n. some (record { name = n; lines = f }))))
    by true b = one_table ds (table_line l) f (λ d. question_lines (ds ++ (d ∷ [])) cs) h
    by false true = one_from ds (read_to_end (read_name l)) cs f q
    by false false = refl

line_is : (k : ℕ) (s : List ℕ) (cs : List (List Bytes)) (f : List Line) (x : List Bytes) → cuts s ≡ x → step_lines cs ≡ steps_in f → ((ds : List Decl) → question_lines ds cs ≡ whole_of ds f) → (ds : List Decl) → question_lines ds (x ∷ cs) ≡ whole_of ds (cond (none_left x) f (record { number = k; bytes = s } ∷ f))
line_is k s cs f [] e q h ds = h ds
line_is k s cs f (p ∷ l) e q h ds = one_line ds p l cs f (record { number = k; bytes = s }) e q (λ d. h (ds ++ (d ∷ [])))

question_is : (n : ℕ) (ss : List (List ℕ)) (ds : List Decl) → question_lines ds (cut_lines ss) ≡ whole_of ds (numbered suc n ss)
unfolding cuts
question_is n [] ds = refl
question_is n (s ∷ ss) ds = line_is (suc n) s (cut_lines ss) (numbered suc (suc n) ss) (cut_line between s) refl (steps_are (suc n) ss) (question_is (suc n) ss) ds

-- the lines of a text, as a reader has them
abbrev pub LinesOf : List ℕ → List Line → Type 0
LinesOf t ls = ls ≡ numbered suc 0 (lines_of [] t)

reads_is : (t : List ℕ) (ls : List Line) → LinesOf t ls → reads t ≡ whole_of [] ls
reads_is t ls e = question_is 0 (lines_of [] t) [] ∙ ap (whole_of []) (sym e)

-- where from follows, the tables are right
tables_right : (f : List Line) (a : After) → after_tables f ≡ some a → true ≡ is_some (tables_in f)
unfolding head_in
tables_right [] a e = refl
tables_right (k ∷ f) a e = by (same_bytes (head_piece (pieces k)) (codes "table")) (table_line (tail_pieces (pieces k))) (cond (same_bytes (head_piece (pieces k)) (codes "from")) (and_then (lone_name (tail_pieces (pieces k))) (λ n. some (some n))) none) (tables_right f a) e
  where
    by : (b : Bool) (o : Option Decl) (q : Option (Option Bytes)) → (after_tables f ≡ some a → true ≡ is_some (tables_in f)) → and_then (cond b (and_then o (λ d. some none)) q) (λ k. map_or k (after_tables f) (λ n. some (record { name = n; lines = f }))) ≡ some a → true ≡ is_some (cond b (and_then o (λ d. and_then (tables_in f) (λ ts. some (d ∷ ts)))) (some []))
    by true none q h k = let z : ◌≡◌ {A = ℕ} 0 1 = cc in absurd (omega arith)
    by true (some d) q h k = h k ∙ go (tables_in f)
      where
        go : (t : Option (List Decl)) → is_some t ≡ is_some (and_then t (λ ts. some (d ∷ ts)))
        go none = refl
        go (some ts) = refl
    by false o q h k = refl

nothing : (o : Option (List Decl)) → ◌≡◌ {A = Option Asked} (and_then o (λ ts. none)) none
nothing none = refl
nothing (some ts) = refl

no_from : (t : List ℕ) (ls : List Line) → LinesOf t ls → after_tables ls ≡ none → reads t ≡ none
no_from t ls e f = reads_is t ls e ∙ (ap (with_parts [] (tables_in ls)) f ∙ nothing (tables_in ls))

no_steps : (t : List ℕ) (ls ms : List Line) (n : Bytes) → LinesOf t ls → after_tables ls ≡ some (record { name = n; lines = ms }) → steps_in ms ≡ none → reads t ≡ none
no_steps t ls ms n e f g =
    reads_is t ls e ∙ (ap (with_parts [] (tables_in ls)) f
    ∙ (ap (λ o. and_then (tables_in ls) (λ ts. and_then o (λ ss. some (record { decls = ts; from = n; steps = ss })))) g ∙ nothing (tables_in ls)))

-- a refusal of the first lines, of a text without from, of the steps
blames : (x : NotAQuestion) (t : List ℕ) (o : Option Line) → BlamesFirst x o → Blames x t o
blames x t none h = absurd h
blames x t (some l) h = h

pub heads_refused : (x : NotAQuestion) (t : List ℕ) (ls : List Line) → LinesOf t ls → after_tables ls ≡ none → Blames x t (wrong_in ls) → Read (Err x) t
heads_refused x t ls e f g = (no_from t ls e f, subst (λ k. Blames x t (wrong_in k)) e g)

pub heads_blamed : (x : NotAQuestion) (t : List ℕ) (ls : List Line) → LinesOf t ls → after_tables ls ≡ none → BlamesFirst x (wrong_in ls) → Read (Err x) t
heads_blamed x t ls e f g = heads_refused x t ls e f (blames x t (wrong_in ls) g)

pub steps_refused : (x : NotAQuestion) (t : List ℕ) (ls ms : List Line) (n : Bytes) → LinesOf t ls → after_tables ls ≡ some (record { name = n; lines = ms }) → wrong_in ls ≡ wrong_step ms → steps_in ms ≡ none → BlamesFirst x (wrong_step ms) → Read (Err x) t
steps_refused x t ls ms n e f w g h = (no_steps t ls ms n e f g, blames x t (wrong_line t) (subst (BlamesFirst x) (sym w ∙ ap wrong_in e) h))

pub found_in : (t : List ℕ) (q : Question) → LinesOf t (left_in q.tables.lines) → after_tables (left_in q.tables.lines) ≡ some (record { name = q.from.now; lines = left_in q.steps.lines }) → is_some (steps_in (left_in q.steps.lines)) ≡ true → Read (Ok q) t
found_in t q e f g =
    let ts = some_of (tables_in (left_in q.tables.lines)) (tables_right (left_in q.tables.lines) _ f) in
    let ss = some_of (steps_in (left_in q.steps.lines)) (sym g) in (
      record { decls = ts.0; from = q.from.now; steps = ss.0 },
      reads_is t (left_in q.tables.lines) e ∙ (ap (with_parts [] (tables_in (left_in q.tables.lines))) f
          ∙ (ap (λ o. and_then (tables_in (left_in q.tables.lines)) (λ us. and_then o (λ xs. some (record { decls = us; from = q.from.now; steps = xs })))) ss.1
          ∙ ap (λ o. and_then o (λ us. some (record { decls = us; from = q.from.now; steps = ss.0 }))) ts.1)),
      record { tables = ts.1; from = refl; steps = ss.1 },
    )

pub found : (t : List ℕ) (q : Question) (a b : Lines) → q.tables.lines ≡ a → q.steps.lines ≡ b → LinesOf t (left_in a) → after_tables (left_in a) ≡ some (record { name = q.from.now; lines = left_in b }) → is_some (steps_in (left_in b)) ≡ true → Read (Ok q) t
found t q a b i j e f g = found_in t q (rw i e) (rw (i, j) f) (rw j g)

-- a refusal that is handed on
pub handed_on : (r : Result Question NotAQuestion) (x : NotAQuestion) (t : List ℕ) → IsErrAnd r (λ y. y ≡ x) → Read (Err x) t → Read r t
handed_on (Ok q) x t e h = absurd e
handed_on (Err y) x t e h = subst (λ z. Read (Err z) t) (sym e) h
