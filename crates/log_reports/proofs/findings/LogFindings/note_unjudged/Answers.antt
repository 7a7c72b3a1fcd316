use Rattle.std.proofs.Common.{IfSome, subst}
use Rattle.log_selections.specs.Shown.{AreLinesOf}
use Rattle.log_reports.proofs.FoundFacts.{all_more}
use Rattle.log_reports.proofs.findings.LogFindings.note_unjudged.Goals as goal

pub returns-in_ok-push-in-Some-clause-found : goal.returns-in_ok-push-in-Some-clause-found
returns-in_ok-push-in-Some-clause-found c = λ before. record {
  listed = before.listed;
  unjudged = all_more (λ shown. AreLinesOf c.args.known.now.lists shown.items) c.args.self.now.unjudged.items c.push.new.self.items c.in-Some.shown c.in_ok-push-in-Some.ensures.items before.unjudged
      (subst (λ found. IfSome found (λ shown. AreLinesOf c.args.known.now.lists shown.items)) c.in-Some.is c.in_ok-shown.ensures);
}
