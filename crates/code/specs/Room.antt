-- How many words of room expressions take.
use Rattle.std.specs.Prelude.{ℕ, ◌+◌, ◌*◌, ◌≤◌}

-- the most instructions in the code of a line of so many bytes, and the most marks in its reading
abbrev pub instruction_limit : ℕ → ℕ
instruction_limit bytes = 16 * bytes + 45

-- words for code: two for each instruction
abbrev pub code_words : ℕ → ℕ
code_words bytes = 2 * instruction_limit bytes

-- words for the marks of its reading
abbrev pub mark_words : ℕ → ℕ
mark_words bytes = instruction_limit bytes

-- words for a stack: an instruction leaves at most one value or type more
abbrev pub stack_words : ℕ → ℕ
stack_words bytes = instruction_limit bytes

-- code, marks and a stack have room in 112 words for each byte and 512
abbrev pub ExpressionsFit : Type 0
ExpressionsFit = (bytes : ℕ) → code_words bytes + mark_words bytes + stack_words bytes ≤ 112 * bytes + 512
