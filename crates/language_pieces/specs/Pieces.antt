-- The pieces of a line, one after another.
use Rattle.std.specs.Prelude.{◌≡◌, ℕ, ◌-◌, Bool, true, false, ◌||◌, List, [], ◌∷◌, length, drop, ◌==◌, Ok, Err, Some, None, Option, Result}
use Rattle.meaning.specs.Base.{Bytes}
use Rattle.meaning.specs.Text.{between, cut_line, head_piece}
use Rattle.language_pieces.specs.declared.cutting.Cut.{Cut}
use Rattle.language_pieces.specs.declared.cutting.OpenQuote.{OpenQuote}

-- the pieces of a line from some place on
unfoldable pub cuts : List ℕ → List Bytes
cuts s = cut_line between s

-- is a byte one of = ! and <, which = may follow
abbrev pub is_half : ℕ → Bool
is_half byte = byte == 61 || (byte == 33 || byte == 60)

-- the piece that begins at a place of a line
unfoldable pub name_at : List ℕ → ℕ → Bytes
name_at line start = head_piece (cuts (drop start line))

-- are no pieces left
abbrev pub none_left : List Bytes → Bool
none_left [] = true
none_left (piece ∷ pieces) = false

-- bytes are the last ones of a line
abbrev pub IsEndOf : List ℕ → List ℕ → Type 0
IsEndOf rest s = rest ≡ drop (length s - length rest) s

-- a piece stands first in a line, and what is behind it in the line
pub record IsCutOf (c : Cut) (s : List ℕ) : Type 0 where
  pub pieces : cuts s ≡ c.piece.now ∷ cuts c.rest.now
  pub end : IsEndOf c.rest.now s

-- what stands first is a piece, the end, or quotes that are not closed
abbrev pub StandsFirst : Result (Option Cut) OpenQuote → List ℕ → Type 0
StandsFirst (Ok (Some c)) s = IsCutOf c s
StandsFirst (Ok None) s = cuts s ≡ []
StandsFirst (Err e) s = cuts s ≡ (39 ∷ []) ∷ (39 ∷ []) ∷ []
