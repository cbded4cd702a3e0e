use Rattle.std.proofs.Common.{length, ap, arith, length-take}
use Rattle.code.proofs.InWords.{first_length}
use Rattle.code.proofs.code.Code.words.Goals as goal

pub returns-clause-length : goal.returns-clause-length
returns-clause-length c =
    let n = first_length c.self.inside.words.now c.self.inside.count c.self.invariant in
    let v = ap (λ s. length s.instructions) c.self.view_is in
    simp length-take (omega arith)

pub returns-clause-within : goal.returns-clause-within
returns-clause-within c =
    let n = first_length c.self.inside.words.now c.self.inside.count c.self.invariant in
    let v = ap (λ s. length s.instructions) c.self.view_is in
    let s = ap (λ s. s.size) c.self.view_is in
    let b = c.self.invariant in
    omega arith
