-- What a turn of the code says, of the machine's states.
use Rattle.std.specs.Prelude.{◌≡◌, ℕ, List, [], ◌∷◌, ◌++◌, Some, None, Ok, Err, Option, Result}
use Rattle.meaning.specs.Base.{Bytes}
use Rattle.code.specs.Postfix.{Instr, map_col}
use Rattle.code.specs.Words.{instr_of}
use Rattle.code.specs.declared.instruction.Instruction.{Instruction}
use Rattle.language_pieces.specs.Pieces.{name_at}
use Rattle.language_pieces.specs.Views.{ahead}
use Rattle.language_pieces.specs.declared.reader.Reader.{Reader}
use Rattle.language_pieces.specs.declared.faults.Fault.{Fault}
use Rattle.language_expressions.specs.Machine.{State, wants, has, Outcome, goes_on, comes_to, fails}
use Rattle.language_expressions.specs.declared.machine.Level.{Level}
use Rattle.language_expressions.specs.declared.machine.Mark.{Mark}
use Rattle.language_expressions.specs.declared.machine.Turn.{Turn}

-- the marks, with one more if there is one
abbrev pub marked : Option Mark → List Mark → List Mark
marked None M = M
marked (Some m) M = m ∷ M

-- the code, with an instruction more if there is one, its column by its name in the line
abbrev pub coded : List ℕ → Option Instruction → List (Instr Bytes) → List (Instr Bytes)
coded line None c = c
coded line (Some i) c = c ++ (map_col (name_at line) (instr_of i) ∷ [])

-- the state in which an operand of a level is wanted, or one was read
abbrev pub state : Option Level → List Bytes → List Mark → List (Instr Bytes) → State
state (Some w) l M c = wants w l M c
state None l M c = has l M c

-- what a turn comes to, from the marks and the code before it
abbrev pub outcome : List ℕ → Result Turn Fault → List Bytes → List Mark → List (Instr Bytes) → Outcome
outcome line (Ok t) l M c = goes_on (state t.wanted l (marked t.mark M) (coded line t.instruction c))
outcome line (Err f) l M c = fails

-- the same where there may be no turn more, since the expression ends
abbrev pub next_outcome : List ℕ → Result (Option Turn) Fault → List Bytes → List Mark → List (Instr Bytes) → Outcome
next_outcome line (Ok (Some t)) l M c = outcome line (Ok t) l M c
next_outcome line (Ok None) l M c = comes_to c
next_outcome line (Err f) l M c = fails

-- a turn read from a reader, which comes to what a turn of the machine does, whatever the marks and the code before it
pub record TurnRead (r : Result Turn Fault) (old new : Reader) (f : List Bytes → List Mark → List (Instr Bytes) → Outcome) : Type 0 where
  pub line : new.line.now ≡ old.line.now
  pub turn : (M : List Mark) (c : List (Instr Bytes)) → outcome old.line.now r (ahead new) M c ≡ f (ahead old) M c
