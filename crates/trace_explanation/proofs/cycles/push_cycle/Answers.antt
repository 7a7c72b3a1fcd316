use Rattle.std.proofs.Common.{◌∙◌, string_bytes}
use Rattle.trace_explanation.specs.Explanations.{cycle_text}
use Rattle.trace_explanation.proofs.TextFacts.{grown, grown-last}
use Rattle.trace_explanation.proofs.cycles.push_cycle.Goals as goal

pub returns : goal.returns
unfolding cycle_text
returns c =
    let old = string_bytes c.args.text.now in
    let said = rw c.in_ok-numbered.ensures at c.in_ok-push_diagnosis.ensures in
    let head = grown old _ _ _ _ said (rw (c.order.ensures, c.subject.ensures) at c.in_ok-push_head.ensures) in
    let chain = grown old _ _ _ _ head (rw c.in_ok-numbered.ensures at c.in_ok-push_chain.ensures) in
    let why = grown old _ _ _ _ chain c.in_ok-push_str.ensures.bytes in
    let steps = grown old _ _ _ _ why (rw c.in_ok-numbered.ensures at c.in_ok-push_steps.ensures) in
    let named = grown old _ _ _ _ steps (rw c.subject-2.ensures at c.in_ok-push_places_head.ensures) in
    let events = c.deref.ensures.value ∙ c.in_ok-list_named.ensures in
    grown-last c.push_places.result old _ _ _ _ named (rw events at c.push_places.ensures)
