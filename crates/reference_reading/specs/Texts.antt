-- The lines of a text.
use Rattle.std.specs.Prelude.{◌≡◌, ℕ, ◌+◌, ◌⊎◌, Option, None, Some, List, [], ◌∷◌, ◌++◌, Contains, length}
use Rattle.reference_reading.specs.declared.parts.Part.{Part}
use Rattle.reference_reading.specs.declared.reading.Lines.{Lines}

-- the next line is taken, up to the end of a line or of the text
abbrev pub TakesLine : Lines → Option Part → Lines → Type 0
TakesLine before None after = before.rest.bytes.now ≡ []
TakesLine before (Some line) after =
    (line.start ≡ before.rest.start) × (¬ Contains line.bytes.now 10) ×
    (((before.rest.bytes.now ≡ line.bytes.now ++ 10 ∷ after.rest.bytes.now) × (after.rest.start ≡ line.start + length line.bytes.now + 1))
    ⊎ ((before.rest.bytes.now ≡ line.bytes.now) × (after.rest.bytes.now ≡ [])))
