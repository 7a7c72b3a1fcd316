use Rattle.std.proofs.Common.{◌∙◌, ap, subst, sym}
use Rattle.std.specs.List.{All}
use Rattle.log_selections.specs.Shown.{IsLineOf}
use Rattle.log_reports.proofs.FoundFacts.{all_more}
use Rattle.log_reports.proofs.value_violations.show_events.Goals as goal
use Rattle.log_reports.proofs.value_violations.show_events.Goals.{in-Some+in_ok-push, in_default}

pub loop-number-preserved : goal.loop-number-preserved
loop-number-preserved c =
    let Here = IsLineOf c.args.known.now.lists in
    elim c.match-show_event.branch [
      | in-Some+in_ok-push w ↦
          all_more Here c.loop-number.shown.items c.match-show_event.shown.items w.in-Some.event (ap (λ v. v.items) w.shown-is ∙ w.in_ok-push.ensures.items) c.loop-number.invariant
          w.in-Some.ensures
      | in_default w ↦ subst (λ v. All Here v.items) (sym w.shown-is) c.loop-number.invariant
    ]
