use Rattle.std.proofs.Common.{◌∙◌, ap, rules, sym, slice_get}
use Rattle.std.specs.List.{find}
use Rattle.trace_explanation.specs.Steps.{is_edge}
use Rattle.trace_explanation.proofs.StepFacts.{got, step_found, step_none}
use Rattle.trace_explanation.proofs.numbers.NumberedSteps.step.Goals as goal

pub returns-in-Some : goal.returns-in-Some
returns-in-Some c =
    let steps = c.self.inside.steps.now in
    let found = step_found steps c.args.u c.args.v c.in-Some.number.now (sym (c.self.invariant c.args.u c.args.v) ∙ sym c.in-Some.ensures.value) in
    got steps c.saturating_sub.result c.get-in-Some.result c.get-in-Some.ensures.lookup.3 ∙ ap (slice_get steps) c.saturating_sub.ensures ∙ sym found ∙ ap (find (is_edge (c.args.u, c.args.v))) c.self.view_is

pub returns-in-None : goal.returns-in-None
returns-in-None c =
    let finds = c.self.invariant c.args.u c.args.v in
    let none = step_none (is_edge (c.args.u, c.args.v)) 1 c.args.self.now in
    search (rules, finds, none)
