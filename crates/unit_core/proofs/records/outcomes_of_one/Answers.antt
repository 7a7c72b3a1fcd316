use Rattle.std.proofs.lemmas.List.Elements.{All-push}
use Rattle.std.proofs.lemmas.Option.{slice_get-get_or}
use Rattle.tso_ops.specs.Values.{ReadFits}
use Rattle.unit_core.proofs.OutcomeFacts.{outcomes-more-some, outcomes-more-none}
use Rattle.unit_core.proofs.records.outcomes_of_one.Goals as goal
use Rattle.unit_core.proofs.records.outcomes_of_one.Goals.{in-Some+in_ok-push, in_default}

pub loop-step-preserved : goal.loop-step-preserved
loop-step-preserved c =
    let read = slice_get-get_or c.args.steps.now c.loop-step.step-index _ c.loop-step-test.true in
    elim c.match-outcome_of.branch [
      | in-Some+in_ok-push w ↦
          rw (w.list-is, w.in_ok-push.ensures.items) record {
            are = outcomes-more-some c.args.p c.args.steps.now c.loop-step.step-index c.loop-step.list.items _ w.in-Some.outcome read c.loop-step.invariant.are w.in-Some.ensures.is;
            fits = All-push ReadFits c.loop-step.list.items w.in-Some.outcome c.loop-step.invariant.fits w.in-Some.ensures.fits;
          }
      | in_default w ↦
          rw w.list-is record {
            are = outcomes-more-none c.args.p c.args.steps.now c.loop-step.step-index c.loop-step.list.items _ read c.loop-step.invariant.are w.in_default.ensures.is;
            fits = c.loop-step.invariant.fits;
          }
    ]
