use Rattle.std.proofs.Common.{◌∙◌, IfSome, ap, subst, sym}
use Rattle.std.specs.List.{All}
use Rattle.log_reports.specs.ValueViolations.{AreSourcesOf}
use Rattle.log_reports.proofs.FoundFacts.{all_more}
use Rattle.log_reports.proofs.value_violations.show_loads.Goals as goal
use Rattle.log_reports.proofs.value_violations.show_loads.Goals.{in-Some+in_ok-push, in_default}

pub loop-load-preserved : goal.loop-load-preserved
loop-load-preserved c =
    let Here = AreSourcesOf c.args.known.now in
    elim c.match-branch-2.branch [
      | in-Some+in_ok-push w ↦
          all_more Here c.loop-load.shown.items c.match-branch-2.shown.items w.in-Some.sources (ap (λ v. v.items) w.shown-is ∙ w.in_ok-push.ensures.items) c.loop-load.invariant
          (subst (λ found. IfSome found Here) w.in-Some.is c.in_ok-sources.ensures)
      | in_default w ↦ subst (λ v. All Here v.items) (sym w.shown-is) c.loop-load.invariant
    ]
