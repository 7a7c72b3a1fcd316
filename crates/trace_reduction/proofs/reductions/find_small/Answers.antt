use Rattle.std.proofs.Common.{ℕ, List, subst, sym}
use Rattle.log_selections.specs.Cuts.{origin_in}
use Rattle.log_selections.specs.Selections.{IsSelectionBy}
use Rattle.trace_reduction.proofs.ReductionFacts.{judged_reduction}
use Rattle.trace_reduction.proofs.reductions.find_small.Goals as goal

pub returns-then-is_some-clause-found : goal.returns-then-is_some-clause-found
returns-then-is_some-clause-found g c =
    judged_reduction c.args.trace.now c.in-Some.small.trace (origin_in c.in-Some.small.origins.items) c.in_ok-finding.finding c.processors-processors.ensures.kept
    (subst (λ (xs : List ℕ). IsSelectionBy c.args.trace.now c.in-Some.small.trace (origin_in xs)) c.deref.ensures.value (c.is_selection.ensures c.if-not-is_selection.false))
    c.in_ok-finding.ensures.found (sym c.if-is_some.ensures)
