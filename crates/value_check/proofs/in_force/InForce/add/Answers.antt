use Rattle.value_check.proofs.InForceFacts.{step_added}
use Rattle.value_check.proofs.in_force.InForce.add.Goals as goal

pub returns : goal.returns
returns c = λ t p at of.
    step_added t c.args.self.now p at c.follow.new.self c.push.new.self c.args.step c.in_ok-push.ensures.items
    (λ known events. c.follow.ensures t c.args.self.now.steps.items known events) of
