use Rattle.std.proofs.Common.{◌∙◌, List, ℕ, ap, arith, subst, sym}
use Rattle.log_text.specs.LogValues.{log_value}
use Rattle.log_text.specs.Tags.{AreTagsOf}
use Rattle.log_reports.proofs.ReadFacts.{all_consumed, all_read, log_said, on_ok, refusal_said}
use Rattle.log_reports.proofs.reports.read_report.Goals as goal

pub returns-in_ok-tags-in-Ok-clause-report : goal.returns-in_ok-tags-in-Ok-clause-report
returns-in_ok-tags-in-Ok-clause-report g c =
    let small = c.in_ok-text.text.small in
    let all = all_read (g.R.Read.remaining c.args.reader.now) c.in_ok-text.text.items c.in_ok-text.ensures.prefix (omega (arith, small)) in
    let tagged = subst (λ (l : List ℕ). AreTagsOf l c.in_ok-tags-in-Ok.tags) (c.deref-in-Ok.ensures.value ∙ sym c.deref.ensures.value) c.in_ok-tags-in-Ok.ensures in
    log_said (g.P.Rendering.rendered c.args.reporting.now.rendering.now) (g.P.Rendering.refused c.args.reporting.now.rendering.now) c.args.reporting.now.options (g.R.Read.remaining c.args.reader.now) _ _ all c.deref.ensures.value (log_value c.in-Ok.log) c.in_ok-tags-in-Ok.tags c.report_on.result c.in-Ok.ensures.found c.in-Ok.ensures.ended tagged c.report_on.ensures.report

pub returns-in_ok-tags-in-Ok-clause-taken : goal.returns-in_ok-tags-in-Ok-clause-taken
returns-in_ok-tags-in-Ok-clause-taken g c =
    let small = c.in_ok-text.text.small in
    on_ok c.report_on.result (all_consumed (g.R.Read.remaining c.args.reader.now) _ _ (all_read (g.R.Read.remaining c.args.reader.now) c.in_ok-text.text.items c.in_ok-text.ensures.prefix (omega (arith, small))) c.in_ok-text.ensures.taken)

pub returns-in_ok-refuse-in-Err-clause-report : goal.returns-in_ok-refuse-in-Err-clause-report
returns-in_ok-refuse-in-Err-clause-report g c =
    let small = c.in_ok-text.text.small in
    let all = all_read (g.R.Read.remaining c.args.reader.now) c.in_ok-text.text.items c.in_ok-text.ensures.prefix (omega (arith, small)) in
    let (other, says, gives) = c.in_ok-refuse-in-Err.ensures in
    let same = c.deref-in-Err.ensures.value ∙ sym c.deref.ensures.value in
    let said = says ∙ ap (λ (l : List ℕ). g.P.Rendering.refused c.args.reporting.now.rendering.now l c.in-Err.fault.line c.in-Err.fault.why) same in
    refusal_said (g.P.Rendering.rendered c.args.reporting.now.rendering.now) (g.P.Rendering.refused c.args.reporting.now.rendering.now) c.args.reporting.now.options (g.R.Read.remaining c.args.reader.now) _ _ all c.deref.ensures.value c.in-Err.fault.line c.in-Err.fault.why _ _ (c.in-Err.ensures.refused other) said gives

pub returns-in_ok-refuse-in-Err-clause-taken : goal.returns-in_ok-refuse-in-Err-clause-taken
returns-in_ok-refuse-in-Err-clause-taken g c =
    let small = c.in_ok-text.text.small in
    all_consumed (g.R.Read.remaining c.args.reader.now) _ _ (all_read (g.R.Read.remaining c.args.reader.now) c.in_ok-text.text.items c.in_ok-text.ensures.prefix (omega (arith, small))) c.in_ok-text.ensures.taken
