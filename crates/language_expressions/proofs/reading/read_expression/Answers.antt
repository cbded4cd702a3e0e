use Rattle.std.proofs.Common.{refl, ap, ◌∙◌, arith, rules}
use Rattle.language_pieces.specs.Views.{ahead}
use Rattle.language_expressions.specs.Machine.{goes_on}
use Rattle.language_expressions.specs.Turns.{state}
use Rattle.language_expressions.specs.Views.{named_code}
use Rattle.language_expressions.proofs.Room.{start, Leads, went, stopped, faulty, falls, holds_next, marks_left, code_left_before, code_count}
use Rattle.language_expressions.proofs.reading.read_expression.Goals as goal

pub loop-turn-init : goal.loop-turn-init
loop-turn-init c = record { line = refl; room = refl; size = refl; within = omega (arith, c.requires.room); holds = start c.args.reader _ _ (ap (λ s. s.items) c.new-marks.ensures) }

pub returns-in_err-turn-clause-read : goal.returns-in_err-turn-clause-read
returns-in_err-turn-clause-read c =
    let s = state c.loop-turn.wanted (ahead c.loop-turn.reader) c.loop-turn.marks.items (named_code c.args.reader.line.now c.loop-turn.code.instructions) in
    let h = holds_next _ _ _ (faulty _ _ _ _ s (c.next_turn.ensures.turn _) c.in_err-turn.was) c.loop-turn.invariant.holds in
    search rules

pub settle-requires : goal.settle-requires
settle-requires c =
    let s = state c.loop-turn.wanted (ahead c.loop-turn.reader) c.loop-turn.marks.items (named_code c.args.reader.line.now c.loop-turn.code.instructions) in
    let e = went _ _ _ _ s c.loop-turn.invariant.line (c.next_turn.ensures.turn _) c.in_ok-turn.was c.in-Some.is refl refl in
    let h = holds_next _ _ _ e c.loop-turn.invariant.holds in
    let m = marks_left _ _ _ c.in-Some.turn.wanted (ahead c.next_turn.new.reader) c.in-Some.turn.mark c.next_turn.new.marks.items _ h in
    let k = code_left_before _ _ _ c.in-Some.turn.wanted (ahead c.next_turn.new.reader) _ c.args.reader.line.now c.in-Some.turn.instruction _ h in
    let r = ap (λ s. s.room) c.new-marks.ensures in
    record {
      deep = omega arith;
      room = omega (arith, code_count c.args.reader.line.now c.args.code.now.instructions, code_count c.args.reader.line.now c.loop-turn.code.instructions);
    }

turned : (c : goal.After-settle) → Leads (state c.loop-turn.wanted (ahead c.loop-turn.reader) c.loop-turn.marks.items (named_code c.args.reader.line.now c.loop-turn.code.instructions)) (goes_on (state c.in-Some.turn.wanted (ahead c.next_turn.new.reader) c.settle.new.marks.items (named_code c.args.reader.line.now c.settle.new.code.instructions)))
turned c = went _ _ _ _ _ c.loop-turn.invariant.line (c.next_turn.ensures.turn _) c.in_ok-turn.was c.in-Some.is (ap (λ s. s.items) c.settle.ensures.marks) (c.settle.ensures.code c.args.reader.line.now)

pub loop-turn-smaller : goal.loop-turn-smaller
loop-turn-smaller c = falls (turned c)

pub loop-turn-preserved : goal.loop-turn-preserved
loop-turn-preserved c = record {
  line = c.next_turn.ensures.line ∙ c.loop-turn.invariant.line;
  room = ap (λ s. s.room) c.settle.ensures.marks ∙ (c.next_turn.ensures.room ∙ c.loop-turn.invariant.room);
  size = c.settle.ensures.size ∙ c.loop-turn.invariant.size;
  within = c.settle.ensures.within;
  holds = holds_next _ _ _ (turned c) c.loop-turn.invariant.holds;
}

pub returns-clause-read : goal.returns-clause-read
returns-clause-read c =
    let s = state c.loop-turn.wanted (ahead c.loop-turn.reader) c.loop-turn.marks.items (named_code c.args.reader.line.now c.loop-turn.code.instructions) in
    holds_next _ _ _ (stopped _ _ _ _ s (c.next_turn.ensures.turn _) c.in_ok-turn.was c.in_default.is) c.loop-turn.invariant.holds
