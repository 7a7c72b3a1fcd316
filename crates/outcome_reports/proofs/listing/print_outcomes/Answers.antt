use Rattle.std.proofs.Common.{◌∙◌, List, ap, subst, sym, string_bytes}
use Rattle.std.specs.Global.{Vec}
use Rattle.std.proofs.lemmas.Result.{IfOk-weaker}
use Rattle.tso_ops.specs.declared.ops.Outcome.{Outcome}
use Rattle.outcome_reports.specs.Internal.Counting.{traces_by}
use Rattle.outcome_reports.specs.Outcomes.{IsListing, traces_text}
use Rattle.request_options.specs.declared.outcomes.OutcomeForm.{OutcomeForm}
use Rattle.outcome_reports.proofs.listing.print_outcomes.Goals as goal

pub returns-in_ok-traces-in-Traces : goal.returns-in_ok-traces-in-Traces
returns-in_ok-traces-in-Traces c =
    let program = c.args.program.now in
    let traces = traces_by program.setting c.in_ok-traces-in-Traces.traces.items in
    let are = c.in_ok-traces-in-Traces.ensures.all program c.requires.found in
    IfOk-weaker c.print_traces.result _ _
    (λ text is.
    subst (λ (form : OutcomeForm). IsListing form program (string_bytes text)) (sym c.in-Traces.is)
    (traces, are, is ∙ ap (λ (ts : List (Vec (Vec Outcome))). traces_text (traces_by program.setting ts)) c.deref.ensures.value))
    c.print_traces.ensures
