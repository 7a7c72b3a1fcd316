use Rattle.decision_explanation.proofs.InForceFacts.{kept_more}
use Rattle.decision_explanation.proofs.in_force.InForce.add.Goals as goal

pub returns-clause-kept : goal.returns-clause-kept
returns-clause-kept c = kept_more c.args.self.now _ _ c.requires.kept c.in_ok-before.ensures.old c.in_ok-before.ensures.updates c.in_ok-push.ensures.items
