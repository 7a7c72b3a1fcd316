use Rattle.std.proofs.Common.{◌∙◌, sym}
use Rattle.log_text.proofs.CutFacts.{gathered_all, gathered_more, gathered_none, gathered_refused}
use Rattle.log_text.proofs.cutting.boundaries_of.Goals as goal

pub lines-init : goal.lines-init
lines-init c = gathered_none c.args.text.now c.new-found.result c.new-found.ensures.empty

pub returns-in_default : goal.returns-in_default
returns-in_default c = gathered_all c.args.text.now c.lines.rest.now c.lines.found c.lines.invariant c.in_default.ensures.none

pub returns-in-Err : goal.returns-in-Err
returns-in-Err c lines are =
    gathered_refused _ c.args.text.now c.lines.rest.now c.in-Some.line.now c.in-Some.after.now c.lines.found c.in-Err.field-0 c.lines.invariant c.in-Some.ensures.line
    (sym c.line_said.ensures.is ∙ c.in-Err.is) lines are

pub lines-preserved : goal.lines-preserved
lines-preserved c =
    gathered_more c.args.text.now c.lines.rest.now c.in-Some.line.now c.in-Some.after.now c.lines.found c.add_boundaries.new.found c.in-Ok.said c.lines.invariant c.in-Some.ensures.line
    (sym c.line_said.ensures.is ∙ c.in-Ok.is) c.in_ok-add_boundaries-in-Ok.ensures
