use Rattle.std.proofs.Common.{◌∙◌, ap, sym}
use Rattle.std.specs.Prelude.{unwrap_or}
use Rattle.run_lines.specs.declared.arguments.Widths.TheVariants.{Unseen}
use Rattle.line_text.specs.Lines.{parts_of}
use Rattle.log_text.specs.LogLines.{widths_of_texts}
use Rattle.log_text.proofs.lines.widths_of_text.Goals as goal

pub returns-in_default : goal.returns-in_default
returns-in_default c = c.unwrap_or.ensures ∙ c.widths_in.ensures Unseen ∙ ap widths_of_texts (sym c.in_default.ensures.none) ∙ c.lines.invariant

pub returns-in-Some-widths_in : goal.returns-in-Some-widths_in
returns-in-Some-widths_in c =
    let later = widths_of_texts (parts_of c.in-Some.after.now) in
    ap (λ o. unwrap_or o later) (sym c.in-Some-widths_in.is) ∙ c.widths_in-in-lines.ensures later ∙ ap widths_of_texts (sym c.in-Some.ensures.line) ∙ c.lines.invariant

pub lines-preserved : goal.lines-preserved
lines-preserved c =
    let later = widths_of_texts (parts_of c.in-Some.after.now) in
    ap (λ o. unwrap_or o later) (sym c.in_default-widths_in.is) ∙ c.widths_in-in-lines.ensures later ∙ ap widths_of_texts (sym c.in-Some.ensures.line) ∙ c.lines.invariant
