-- The tables and the steps of a question, one after another.
use Rattle.std.specs.Prelude.{◌≡◌, ℕ, ◌<◌, ◌≤◌, true, List, [], ◌∷◌, length, Some, None, refl, Option as Given}
use Rattle.std.proofs.Math.Option.{Option, some}
use Rattle.meaning.specs.Base.{and_then, is_some}
use Rattle.code.specs.Room.{code_words, mark_words}
use Rattle.language_pieces.specs.Views.{ahead}
use Rattle.language_pieces.specs.declared.reader.Reader.{Reader}
use Rattle.language.specs.Lines.{Line, bytes_left, left_in}
use Rattle.language.specs.Questions.{pieces, tables_in, steps_in}
use Rattle.language.specs.declared.lines.Lines.{Lines}

-- what the views of lines stand for, with one in front
abbrev pub first_of : {A : Type 0} → Option A → Option (List A) → Option (List A)
first_of one others = and_then one (λ x. and_then others (λ xs. some (x ∷ xs)))

-- what viewing a line came to, whatever lines are behind it: no view, or one
abbrev pub Viewed : {A V : Type 0} → (V → Option A) → (List Line → Option (List A)) → (ℕ → ℕ → V → Type 0) → Reader → Given V → Type 0
Viewed meaning all enough r None = (l : Line) (ls : List Line) → ahead r ≡ pieces l → is_some (all (l ∷ ls)) ≡ true → all (l ∷ ls) ≡ some []
Viewed meaning all enough r (Some v) =
    ((l : Line) (ls : List Line) → ahead r ≡ pieces l → all (l ∷ ls) ≡ first_of (meaning v) (all ls))
    × ((n m : ℕ) → mark_words (length r.line.now) ≤ n → code_words (length r.line.now) ≤ m → enough n m v)

-- v is the view of the first of the lines before, and the others are those of the lines after
pub record NextView {A V : Type 0} (meaning : V → Option A) (all : List Line → Option (List A)) (enough : ℕ → ℕ → V → Type 0) (before after : Lines) (v : V) : Type 0 where
  pub is : all (left_in before) ≡ first_of (meaning v) (all (left_in after))
  pub fewer : length (left_in after) < length (left_in before)
  pub short : bytes_left after ≤ bytes_left before
  -- words for its expression: as many as the text that was left wants
  pub room : (n m : ℕ) → mark_words (bytes_left before) ≤ n → code_words (bytes_left before) ≤ m → enough n m v

-- the next view of lines; none where there are no more, if those that come first are right
abbrev pub NextGives : {A V : Type 0} → (V → Option A) → (List Line → Option (List A)) → (ℕ → ℕ → V → Type 0) → Lines → Given V → Lines → Type 0
NextGives meaning all enough before None after = is_some (all (left_in before)) ≡ true → all (left_in before) ≡ some []
NextGives meaning all enough before (Some v) after = NextView meaning all enough before after v

pub no_tables : tables_in [] ≡ some []
no_tables = refl

pub no_steps : steps_in [] ≡ some []
no_steps = refl
