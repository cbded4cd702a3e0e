-- What the turns of a run count up to.
use Rattle.std.proofs.Common.{◌≡◌, ℕ, ◌+◌, ◌*◌, ◌<◌, ◌≤◌, true, List, [], ◌∷◌, length, sym, refl, ap, ◌∙◌, subst, mul-le-mul_left, mul-add, arith}
use mathlib.Core.Option.{some, none}
use Rattle.meaning.specs.Base.{map_or, is_some}
use Rattle.meaning.specs.Values.{Col}
use Rattle.meaning.specs.Steps.{Decl, Step, Question, Table}
use Rattle.meaning.specs.Plan.{decl_cols, cols_after, cols_after_all}
use Rattle.meaning.specs.Pages.{Pages, sound}
use Rattle.meaning.specs.Promise.{rows_all}
use Rattle.projection.specs.Projected.{Scan, scan, projected_next, projected_first, named_amount, projected_total}
use Rattle.projection.specs.Course.{Run, run_start, run_step, run_turn, Running, turn_rows, rows_turned, rows_to_come, TurnedTwice, CourseStarts, CourseTurns, CourseEnds}
use Rattle.meaning.proofs.TablesAlike.{some_of}
use Rattle.meaning.proofs.WellFormed.{some_is}
use Rattle.projection.proofs.Totals.{projected_totals}
use Rattle.projection.proofs.WholeRun.{from_decl}
use Rattle.projection.proofs.Turns.{kept_turn, kept_on, start_is, running_start, running_turn, running_end}

-- all turns, against the rows of all tables
twice :
    (ds : List Decl) (sc : Scan) (ss : List Step) (cs : List Col) (t : Table)
    → rows_turned ds sc cs t ss + length t.rows ≤ 2 * projected_total (λ c r. r) ds sc cs t ss
twice ds sc [] cs t = omega arith
twice ds sc (s ∷ ss) cs t = elim (cols_after ds cs s) as (λ o. map_or o 0 (λ es. let u = projected_next ds sc es t s ss in (length t.rows + (named_amount (λ c r. r) ds s + length u.rows)) + rows_turned ds sc es u ss) + length t.rows ≤ 2 * (length t.rows + (named_amount (λ c r. r) ds s + map_or o 0 (λ es. projected_total (λ c r. r) ds sc es (projected_next ds sc es t s ss) ss)))) [
  | none ↦ small (length t.rows) (named_amount (λ c r. r) ds s)
  | some es ↦ let u = projected_next ds sc es t s ss in
      added (length t.rows) (named_amount (λ c r. r) ds s) (length u.rows) (rows_turned ds sc es u ss) (projected_total (λ c r. r) ds sc es u ss) (twice ds sc ss es u)
]
  where
    small : (a n : ℕ) → 0 + a ≤ 2 * (a + (n + 0))
    small a n = omega arith

    added : (a n c w x : ℕ) → w + c ≤ 2 * x → ((a + (n + c)) + w) + a ≤ 2 * (a + (n + x))
    added a n c w x h = omega arith

pub turned_twice : TurnedTwice
turned_twice ps b q ok =
    let a = from_decl ps b q ok in
    let d = a.0 in
    let t = projected_first ps q d in
    let h = twice q.decls (scan ps) q.steps (decl_cols d) t in
    let p : rows_all ps q ≡ projected_total (λ c r. r) q.decls (scan ps) (decl_cols d) t q.steps = (projected_totals ps b q ok).0 ∙ ap (λ o. map_or o 0 (λ d. projected_total (λ c r. r) q.decls (scan ps) (decl_cols d) (projected_first ps q d) q.steps)) a.2 in
    let r : rows_to_come q.decls (scan ps) (run_start ps q) ≡ rows_turned q.decls (scan ps) (decl_cols d) t q.steps = ap (λ h. rows_to_come q.decls (scan ps) h) (start_is ps q d a.2) in
    at_most (rows_to_come q.decls (scan ps) (run_start ps q)) (rows_turned q.decls (scan ps) (decl_cols d) t q.steps) (length t.rows) (rows_all ps q) (projected_total (λ c r. r) q.decls (scan ps) (decl_cols d) t q.steps) h p r
  where
    at_most : (x y n a b : ℕ) → y + n ≤ 2 * b → a ≡ b → x ≡ y → x ≤ 2 * a
    at_most x y n a b h p r = omega arith

-- one turn
turn_come : (q : Question) (sc : Scan) (cs : List Col) (t : Table) (rest : List Step) → is_some (cols_after_all q.decls cs rest) ≡ true → let h : Run =
    record { columns = cs; held = t; rest = rest } in 0 < length rest → rows_turned q.decls sc cs t rest ≡ turn_rows q.decls h (run_step q.decls sc h rest) + rows_to_come q.decls sc (run_step q.decls sc h rest)
turn_come q sc cs t [] f l = absurd (omega arith)
turn_come q sc cs t (s ∷ ss) f l =
    let z = some_is (cols_after_all q.decls cs (s ∷ ss)) f in
    let p = some_of (cols_after q.decls cs s) (λ es. cols_after_all q.decls es ss) z.0 z.1 in
    subst (λ o. map_or o 0 (λ es. let u = projected_next q.decls sc es t s ss in (length t.rows + (named_amount (λ c r. r) q.decls s + length u.rows)) + rows_turned q.decls sc es u ss) ≡ (let h : Run = record { columns = cs; held = t; rest = s ∷ ss } in let k : Run = map_or o h (λ es. record { columns = es; held = projected_next q.decls sc es t s ss; rest = ss }) in turn_rows q.decls h k + rows_to_come q.decls sc k)) (sym p.1) refl

pub turn_counts : (q : Question) (ps : Pages) (i f x y z : ℕ) (h : Run) → Running q ps i h → 0 < length h.rest → let k =
    run_turn q.decls (scan ps) h in x + f * rows_to_come q.decls (scan ps) h ≤ z → y ≤ x + f * turn_rows q.decls h k → y + f * rows_to_come q.decls (scan ps) k ≤ z
turn_counts q ps i f x y z h g l a b =
    let s = scan ps in
    let k = run_turn q.decls s h in
    let e : f * rows_to_come q.decls s h ≡ f * turn_rows q.decls h k + f * rows_to_come q.decls s k = ap (λ n. f * n) (turn_come q s h.columns h.held h.rest g.fits l) ∙ mul-add f (turn_rows q.decls h k) (rows_to_come q.decls s k) in
    chain x y z (f * rows_to_come q.decls s h) (f * turn_rows q.decls h k) (f * rows_to_come q.decls s k) e a b
  where
    chain : (x y z a b c : ℕ) → a ≡ b + c → x + a ≤ z → y ≤ x + b → y + c ≤ z
    chain x y z a b c e h k = omega arith

-- at the end
pub end_counts :
    (b : ℕ) (q : Question) (ps : Pages) (f x y c : ℕ) → sound b q ≡ true → y + c ≤ x + f * rows_to_come q.decls (scan ps) (run_start ps q)
    → y ≤ x + f * (2 * rows_all ps q)
end_counts b q ps f x y c ok h =
    chain x y c (f * rows_to_come q.decls (scan ps) (run_start ps q)) (f * (2 * rows_all ps q)) h (mul-le-mul_left f (turned_twice ps b q ok))
  where
    chain : (x y c a d : ℕ) → y + c ≤ x + a → a ≤ d → y ≤ x + d
    chain x y c a d h k = omega arith

-- a whole run: its start, a turn, its end
pub course_starts : CourseStarts
course_starts q ps b f x ok = record { kept = (refl, refl); running = running_start ps b q ok; counts = omega arith }

pub course_turns : CourseTurns
course_turns q ps b f x i qs y h rs z k ok l c kt e n =
    let w : k ≡ run_turn q.decls (scan ps) h = e ∙ kept_turn b ps qs q ok c.kept h in
    let more : 0 < length h.rest = omega (arith, c.running.left) in
    record {
      kept = kept_on ps qs rs b c.kept kt;
      running = running_turn b q ps qs i h k ok c.kept l c.running e;
      counts =
          subst (λ k. z + f * rows_to_come q.decls (scan ps) k ≤ x + f * rows_to_come q.decls (scan ps) (run_start ps q)) (sym w)
          (turn_counts q ps i f y z (x + f * rows_to_come q.decls (scan ps) (run_start ps q)) h c.running more c.counts (subst (λ k. z ≤ y + f * turn_rows q.decls h k) w n));
    }

pub course_ends : CourseEnds
course_ends q ps b f x i qs y h ok l c =
    (running_end q ps i h l c.running, end_counts b q ps f x y (f * rows_to_come q.decls (scan ps) h) ok c.counts)
