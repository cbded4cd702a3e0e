use Rattle.std.proofs.Common.{◌∷◌, length, sym, ap, ap₂, ◌∙◌, rules}
use Rattle.std.proofs.lemmas.List.{take_rest}
use Rattle.code.specs.Words.{code_in}
use Rattle.code.proofs.InWords.{first_code, short_code}
use Rattle.code.proofs.instructions.InstructionsIterator.next.Goals as goal

pub returns-in_default-clause-steps : goal.returns-in_default-clause-steps
returns-in_default-clause-steps c = let none = sym c.self.view_is ∙ short_code c.self.inside.words.now c.in_default.len_below in (none, none)

pub returns-in-len2-up-clause-steps : goal.returns-in-len2-up-clause-steps
returns-in-len2-up-clause-steps c =
    let ws = c.self.inside.words.now in
    sym c.self.view_is ∙ (first_code ws c.in-len2-up.len_at_least ∙ sym (ap₂ ◌∷◌ c.from.ensures (ap code_in (take_rest ws 2))))

pub returns-in-len2-up-clause-goes : goal.returns-in-len2-up-clause-goes
returns-in-len2-up-clause-goes c = let shorter = ap length (returns-in-len2-up-clause-steps c) in search rules
