-- There is room for marks and code, and what the loop over turns keeps.
use Rattle.std.specs.Prelude.{Some, None, Ok, Err, Result, Option as Given}
use Rattle.std.proofs.Common.{◌≡◌, ℕ, suc, ◌+◌, ◌*◌, ◌<◌, ◌≤◌, Bool, true, false, cond, List, [], ◌∷◌, length, drop, sym, refl, ap, ◌∙◌, subst, arith, length-append, length-drop}
use mathlib.Core.Option.{Option}
use Rattle.meaning.specs.Base.{Bytes, each}
use Rattle.meaning.specs.Values.{Expr}
use Rattle.code.specs.Postfix.{Instr, map_col}
use Rattle.language_pieces.specs.Pieces.{cuts, name_at}
use Rattle.language_pieces.specs.Views.{ahead}
use Rattle.language_pieces.specs.declared.reader.Reader.{Reader}
use Rattle.language_pieces.proofs.Cut.{cuts_few}
use Rattle.language_expressions.specs.Machine.{State, wants, Outcome, goes_on, comes_to, fails, turn}
use Rattle.language_expressions.specs.Views.{named_code, whole_expression}
use Rattle.language_expressions.specs.declared.machine.Level.{Level}
use Rattle.language_expressions.specs.declared.machine.Level.TheVariants.{If as l_if}
use Rattle.language_expressions.specs.declared.machine.Mark.{Mark}
use Rattle.language_expressions.specs.declared.machine.Turn.{Turn}
use Rattle.language_expressions.specs.Turns.{marked, coded, state, next_outcome}
use Rattle.language_expressions.proofs.Standing.{Holds, holds_more, holds_start, deep, turns_left, turn_falls}
use Rattle.language_pieces.specs.declared.faults.Fault.{Fault}
use Rattle.code.specs.Words.{instr_of}
use Rattle.code.specs.declared.instruction.Instruction.{Instruction}

each_length : {A C : Type 0} (f : A → C) (xs : List A) → length (each f xs) ≡ length xs
each_length f [] = refl
each_length f (x ∷ xs) = ap suc (each_length f xs)

pub code_count : (line : List ℕ) (c : List (Instr ℕ)) → length (named_code line c) ≡ length c
unfolding named_code
code_count line c = each_length (map_col (name_at line)) c

pub ahead_few : (r : Reader) → length (ahead r) ≤ length r.line.now + 1
unfolding ahead
ahead_few r = by r.unclosed
  where
    by : (b : Bool) → length (cond b ((39 ∷ []) ∷ []) (cuts (drop r.at r.line.now))) ≤ length r.line.now + 1
    by true = omega arith
    by false = omega (arith, cuts_few (drop r.at r.line.now), length-drop r.at r.line.now)

pub start : (r : Reader) (M : List Mark) (c : List (Instr Bytes)) → M ≡ [] → Holds c (16 * length r.line.now + 44) (whole_expression (ahead r)) (goes_on (wants l_if (ahead r) M c))
unfolding whole_expression
start r M c e = rw e (let h = holds_start c (ahead r) in (h.0, omega (arith, h.1, ahead_few r), omega (arith, h.2, ahead_few r)))

-- what a turn of the code says of the machine's
pub record Leads (s : State) (x : Outcome) : Type 0 where
  pub is : turn s ≡ x

pub went : {text : List ℕ} {r : Result (Given Turn) Fault} {o : Given Turn} {t : Turn} {N : List Mark} {d : List (Instr Bytes)} (line : List ℕ) (l : List Bytes) (M : List Mark) (c : List (Instr Bytes)) (s : State) → line ≡ text → next_outcome line r l M c ≡ turn s → r ≡ Ok o → o ≡ Some t → N ≡ marked t.mark M → d ≡ coded text t.instruction c → Leads s (goes_on (state t.wanted l N d))
went line l M c s e q f g m k = record { is = rw (m, k, ← e) (sym q ∙ ap (λ x. next_outcome line x l M c) (f ∙ ap Ok g)) }

pub stopped : {r : Result (Given Turn) Fault} {o : Given Turn} (line : List ℕ) (l : List Bytes) (M : List Mark) (c : List (Instr Bytes)) (s : State) → next_outcome line r l M c ≡ turn s → r ≡ Ok o → o ≡ None → Leads s (comes_to c)
stopped line l M c s q f g = record { is = sym q ∙ ap (λ x. next_outcome line x l M c) (f ∙ ap Ok g) }

pub faulty : {r : Result (Given Turn) Fault} {f : Fault} (line : List ℕ) (l : List Bytes) (M : List Mark) (c : List (Instr Bytes)) (s : State) → next_outcome line r l M c ≡ turn s → r ≡ Err f → Leads s fails
faulty line l M c s q e = record { is = sym q ∙ ap (λ x. next_outcome line x l M c) e }

pub falls : {s u : State} → Leads s (goes_on u) → turns_left u < turns_left s
falls {s} {u} e = turn_falls s u e.is

-- what holds behind a turn
module _ (before : List (Instr Bytes)) (b : ℕ) (to : Option Expr) where
  pub holds_next : {s : State} {x : Outcome} → Leads s x → Holds before b to (goes_on s) → Holds before b to x
  holds_next {s} {x} e h = subst (Holds before b to) e.is (holds_more before b to s h)

  pub marks_left : (w : Given Level) (l : List Bytes) (m : Given Mark) (M : List Mark) (c : List (Instr Bytes)) → Holds before b to (goes_on (state w l (marked m M) c)) → length M ≤ b
  marks_left (Some w) l None M c h = omega (arith, h.2, deep M)
  marks_left (Some w) l (Some m) M c h = omega (arith, h.2, deep M)
  marks_left None l None M c h = omega (arith, h.2, deep M)
  marks_left None l (Some m) M c h = omega (arith, h.2, deep M)

  code_left : (w : Given Level) (l : List Bytes) (M : List Mark) (c : List (Instr Bytes)) → Holds before b to (goes_on (state w l M c)) → length c ≤ length before + b
  code_left (Some w) l M c h = omega (arith, h.1)
  code_left None l M c h = omega (arith, h.1)

  pub code_left_before : (w : Given Level) (l : List Bytes) (M : List Mark) (line : List ℕ) (i : Given Instruction) (c : List (Instr Bytes)) → Holds before b to (goes_on (state w l M (coded line i c))) → length c ≤ length before + b
  code_left_before w l M line None c h = code_left w l M c h
  code_left_before w l M line (Some i) c h = omega (arith, code_left w l M _ h, length-append c (map_col (name_at line) (instr_of i) ∷ []))
