use Rattle.std.proofs.Common.{◌∙◌, ◌++◌, ◌∷◌, [], List, ℕ, ap, append_assoc, sym}
use Rattle.outcome_reports.proofs.LineFacts.{values_still, values_then}
use Rattle.outcome_reports.proofs.values.push_values.Goals as goal
use Rattle.outcome_reports.proofs.values.push_values.Goals.{in-Some+in_ok-push-in-Some, in-None}

pub loop-outcome-preserved : goal.loop-outcome-preserved
loop-outcome-preserved c =
    let i = c.loop-outcome.outcome-index in
    let outcomes = c.args.outcomes.now in
    elim c.match-read_by.branch [
      | in-Some+in_ok-push-in-Some w ↦
          rw w.values-is
          (w.in_ok-push-in-Some.ensures.items ∙ ap (λ (t : List ℕ). t ++ w.in-Some.value ∷ []) c.loop-outcome.invariant ∙ append_assoc c.args.values.now.items _ (w.in-Some.value ∷ [])
          ∙ ap (λ (t : List ℕ). c.args.values.now.items ++ t) (sym (values_then i outcomes _ w.in-Some.value c.loop-outcome-test.true (sym c.read_by.ensures ∙ w.in-Some.is))))
      | in-None w ↦
          rw w.values-is
          (c.loop-outcome.invariant ∙ ap (λ (t : List ℕ). c.args.values.now.items ++ t) (sym (values_still i outcomes _ c.loop-outcome-test.true (sym c.read_by.ensures ∙ w.in-None.is))))
    ]
