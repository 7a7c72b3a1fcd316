use Rattle.std.proofs.Common.{◌∙◌, ℕ, List, arith, subst, sym}
use Rattle.log_text.specs.LogTexts.{IsLogRefusal}
use Rattle.log_text.specs.LogValues.{log_value}
use Rattle.log_reports.proofs.ReadFacts.{all_consumed, all_read}
use Rattle.log_decisions.proofs.DecisionFacts.{decided_of_refused, decided_of_spelled}
use Rattle.log_decisions.proofs.deciding.report_decision.Goals as goal

pub returns-in-Ok-clause-report : goal.returns-in-Ok-clause-report
returns-in-Ok-clause-report g c =
    let small = c.in_ok-text.text.small in
    let all = all_read (g.R.Read.remaining c.args.reader.now) c.in_ok-text.text.items c.in_ok-text.ensures.prefix (omega (arith, small)) in
    decided_of_spelled c.args.question (g.R.Read.remaining c.args.reader.now) _ c.deref.result.now _ _ all c.deref.ensures.value (log_value c.in-Ok.log) c.in-Ok.ensures.found c.in-Ok.ensures.ended c.in_ok-report_on_log-in-Ok.ensures

pub returns-in-Ok-clause-taken : goal.returns-in-Ok-clause-taken
returns-in-Ok-clause-taken g c =
    let small = c.in_ok-text.text.small in
    all_consumed (g.R.Read.remaining c.args.reader.now) _ _ (all_read (g.R.Read.remaining c.args.reader.now) c.in_ok-text.text.items c.in_ok-text.ensures.prefix (omega (arith, small))) c.in_ok-text.ensures.taken

pub returns-clause-report : goal.returns-clause-report
returns-clause-report g c =
    let small = c.in_ok-text.text.small in
    let all = all_read (g.R.Read.remaining c.args.reader.now) c.in_ok-text.text.items c.in_ok-text.ensures.prefix (omega (arith, small)) in
    let refused = c.in_ok-render_refused-in-Err.ensures.refused in
    decided_of_refused c.args.question (g.R.Read.remaining c.args.reader.now) _ c.deref-in-Err.result.now _ _ all c.deref-in-Err.ensures.value c.in-Err.fault.line c.in-Err.fault.why
    (subst (λ (l : List ℕ). IsLogRefusal c.args.question.needs_end l c.in-Err.fault.line c.in-Err.fault.why) (c.deref.ensures.value ∙ sym c.deref-in-Err.ensures.value) (c.in-Err.ensures.refused refused.0)) refused.1 refused.2

pub returns-clause-taken : goal.returns-clause-taken
returns-clause-taken g c =
    let small = c.in_ok-text.text.small in
    all_consumed (g.R.Read.remaining c.args.reader.now) _ _ (all_read (g.R.Read.remaining c.args.reader.now) c.in_ok-text.text.items c.in_ok-text.ensures.prefix (omega (arith, small))) c.in_ok-text.ensures.taken
