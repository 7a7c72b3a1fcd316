use Rattle.std.proofs.Common.{◌∙◌, string_bytes}
use Rattle.trace_explanation.proofs.TextFacts.{grown, grown-last}
use Rattle.decision_explanation.specs.Cases.{cases_text}
use Rattle.decision_explanation.proofs.cases.push_cases.Goals as goal

pub returns : goal.returns
unfolding cases_text
returns c =
    let old = string_bytes c.args.text.now in
    let head = rw c.order.ensures at c.in_ok-push_head.ensures in
    let lines = grown old _ _ _ _ head (rw c.in_ok-named.ensures at c.in_ok-push_lines.ensures) in
    let named = grown old _ _ _ _ lines c.in_ok-push_str.ensures.bytes in
    let events = c.deref.ensures.value ∙ c.in_ok-list_named.ensures in
    grown-last c.push_places.result old _ _ _ _ named (rw (c.in_ok-named.ensures, events) at c.push_places.ensures)
