-- What the program is called with.
use Rattle.std.specs.Prelude.{◌≡◌, Bool, true, not, ◌||◌, List, [], ◌∷◌, length, codes, ◌==◌}
use Rattle.meaning.specs.Base.{Bytes}
use Rattle.asking.specs.declared.arguments.Command.{Command}
use Rattle.asking.specs.declared.arguments.Command.TheVariants.{Help, Answer, Misused}

-- does a file have this name: it doesn't begin with a hyphen
abbrev pub is_file : Bytes → Bool
is_file [] = true
is_file (byte ∷ bytes) = not (byte == 45)

-- is a text read from there: from a file, or from standard input, a lone hyphen
abbrev pub is_text : Bytes → Bool
is_text name = is_file name || length name == 1

-- do arguments ask for a command
abbrev pub Asks : List Bytes → Command → Type 0
Asks arguments Help = arguments ≡ codes "--help" ∷ []
Asks arguments (Answer question pages) =
    (arguments ≡ question.now ∷ pages.now ∷ []) × (is_text question.now ≡ true) × (is_file pages.now ≡ true)
Asks arguments Misused = ⊥

-- what arguments come to: a command that they ask for, or that they ask for none
abbrev pub ComesTo : List Bytes → Command → Type 0
ComesTo arguments Misused = (command : Command) → ¬ Asks arguments command
ComesTo arguments Help = Asks arguments Help
ComesTo arguments (Answer question pages) = Asks arguments (Answer question pages)
