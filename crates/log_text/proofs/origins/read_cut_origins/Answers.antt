use Rattle.std.proofs.Common.{◌∙◌, ap, sym}
use Rattle.log_text.specs.Splits.{has_bytes}
use Rattle.log_text.proofs.OriginFacts.{origins_all, origins_more, origins_none, origins_refused}
use Rattle.log_text.proofs.origins.read_cut_origins.Goals as goal

pub lines-init : goal.lines-init
lines-init c = origins_none c.args.text.now c.args.cutting.now c.new-origins.result c.new-origins.ensures.said c.new-origins.ensures.lines c.new-origins.ensures.cut

pub returns-in_default : goal.returns-in_default
returns-in_default c = origins_all c.args.text.now c.args.cutting.now c.lines.rest.now c.lines.origins c.requires.0 (ap has_bytes c.requires.1) c.lines.invariant c.in_default.ensures.none

pub returns-in-Err : goal.returns-in-Err
returns-in-Err c =
    origins_refused c.args.text.now c.args.cutting.now c.lines.rest.now c.in-Some.line.now c.in-Some.after.now c.lines.origins c.in-Err.field-0 c.requires.0 c.lines.invariant c.in-Some.ensures.line
    (sym c.line_said.ensures.is ∙ c.in-Err.is)

pub lines-preserved : goal.lines-preserved
lines-preserved c =
    origins_more c.args.text.now c.args.cutting.now c.lines.rest.now c.in-Some.line.now c.in-Some.after.now c.lines.origins c.add.new.self c.in-Ok.said c.lines.invariant c.in-Some.ensures.line
    (sym c.line_said.ensures.is ∙ c.in-Ok.is) c.in-Ok.ensures.within c.in_ok-add-in-Ok.ensures.said c.in_ok-add-in-Ok.ensures.lines c.in_ok-add-in-Ok.ensures.cut
