use Rattle.std.proofs.Common.{[], refl, ap, ◌∙◌}
use Rattle.meaning.specs.Text.{lines_of}
use Rattle.language.specs.Lines.{line_at}
use Rattle.language.proofs.Cutting.{nth_line}
use Rattle.language.proofs.lines.line_of.Goals as goal

pub returns : goal.returns
returns c =
    ap (λ b. b.now) c.unwrap_or.ensures
    ∙ (nth_line c.new.result c.nth.new.self c.saturating_sub.result c.nth.result _ c.nth.ensures.ran refl
    ∙ (ap (λ ls. line_at ls c.saturating_sub.result) c.new.ensures.lines ∙ ap (line_at (lines_of [] c.args.text.now)) c.saturating_sub.ensures))
