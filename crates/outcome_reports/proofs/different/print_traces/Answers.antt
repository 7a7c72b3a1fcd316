use Rattle.std.proofs.Common.{◌∙◌, ◌++◌, List, ℕ, ap, subst, string_bytes, sym}
use Rattle.std.specs.Global.{Vec}
use Rattle.std.proofs.lemmas.List.{take_all}
use Rattle.tso_ops.specs.declared.ops.Outcome.{Outcome}
use Rattle.tso_ops.specs.Limits.{IsTrace}
use Rattle.tso_ops.specs.Values.{rows, trace_of_lists}
use Rattle.tso_text.specs.Printed.{trace_text}
use Rattle.outcome_reports.specs.Internal.Counting.{traces_by}
use Rattle.outcome_reports.specs.Outcomes.{traces_text}
use Rattle.outcome_reports.proofs.TraceListFacts.{lawful_at, texts_more}
use Rattle.outcome_reports.proofs.different.print_traces.Goals as goal

pub print_lists-requires : goal.print_lists-requires
print_lists-requires c =
    let same = c.deref.ensures.value ∙ ap (λ (v : Vec (Vec Outcome)). v.items) c.lists-item.is in
    subst (λ (lists : List (Vec Outcome)). IsTrace (trace_of_lists c.args.program.now.setting (rows lists))) (sym same)
    (lawful_at c.args.program.now.setting c.args.traces.now c.loop-lists.lists-index c.lists-item.result c.loop-lists-test.true c.requires)

pub loop-lists-preserved : goal.loop-lists-preserved
loop-lists-preserved c =
    let setting = c.args.program.now.setting in
    let same = c.deref.ensures.value ∙ ap (λ (v : Vec (Vec Outcome)). v.items) c.lists-item.is in
    let more = c.in_ok-more.ensures ∙ ap (λ (lists : List (Vec Outcome)). trace_text (trace_of_lists setting (rows lists))) same in
    texts_more setting c.args.traces.now c.loop-lists.lists-index c.lists-item.result _ _ c.loop-lists-test.true c.loop-lists.invariant
    (c.in_ok-push_str.ensures.bytes ∙ ap (λ (t : List ℕ). string_bytes c.loop-lists.text ++ t) (c.deref-in-loop-lists.ensures ∙ more))

pub returns : goal.returns
returns c = c.loop-lists.invariant ∙ ap (λ (ts : List (Vec (Vec Outcome))). traces_text (traces_by c.args.program.now.setting ts)) (take_all c.loop-lists.lists-index c.args.traces.now c.loop-lists-test.false)
