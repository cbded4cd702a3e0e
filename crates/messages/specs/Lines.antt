-- What is wrong on a line, in words.
use Rattle.std.specs.Prelude.{ℕ, List, ◌++◌, codes, decimal}

-- the number of a line, and what is said of it
abbrev pub message_text : ℕ → List ℕ → List ℕ
message_text line said = codes "line " ++ (decimal line ++ codes ": ") ++ said
