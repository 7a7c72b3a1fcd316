use Rattle.std.proofs.Common.{subst}
use Rattle.value_check.specs.Internal.InForce.{supposed}
use Rattle.value_check.specs.Internal.Known.{IsOfEvents}
use Rattle.value_check.proofs.InForceFacts.{all_with, reversed_events}
use Rattle.value_check.proofs.in_force.InForce.oppose.Goals as goal

pub returns-in_ok-push-in-Order-clause-events : goal.returns-in_ok-push-in-Order-clause-events
returns-in_ok-push-in-Order-clause-events c = λ t of all.
    all_with (IsOfEvents t) c.args.self.now.steps.items c.push-in-Order.new.self.items _ c.in_ok-push-in-Order.ensures.items all
    (reversed_events t c.in-Order.first c.in-Order.second (subst (λ s. IsOfEvents t (supposed s)) c.in-Order.is of))
