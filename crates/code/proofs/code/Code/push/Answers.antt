use Rattle.std.proofs.Common.{◌++◌, ◌∷◌, [], length, ap, ◌∙◌, arith, length-append}
use Rattle.code.specs.Words.{instr_of}
use Rattle.code.proofs.Written.{room_left, written}
use Rattle.code.proofs.code.Code.push.Goals as goal

pub store-requires : goal.store-requires
store-requires c = let room = room_left c.self.inside.words.now c.self.inside.count _ c.self.view_is c.self.invariant c.requires in omega arith

pub invariant_of-self : goal.invariant_of-self
invariant_of-self c = let room = room_left c.self.inside.words.now c.self.inside.count _ c.self.view_is c.self.invariant c.requires in omega (arith, c.store.auto.code)

pub returns-clause-pushed : goal.returns-clause-pushed
returns-clause-pushed c =
    let room = room_left c.self.inside.words.now c.self.inside.count _ c.self.view_is c.self.invariant c.requires in
    written c.self.inside.words.now c.store.new.code c.self.inside.count _ room c.store.auto.code c.store.ensures.stored c.store.ensures.others ∙ ap (λ s. s.instructions ++ (instr_of c.args.instruction ∷ [])) c.self.view_is

pub returns-clause-count : goal.returns-clause-count
returns-clause-count c = ap length (returns-clause-pushed c) ∙ length-append c.args.self.now.instructions (instr_of c.args.instruction ∷ [])
