use Rattle.std.proofs.Common.{◌∙◌, ap, reverse, take}
use Rattle.decision_explanation.specs.InForce.{without_case}
use Rattle.decision_explanation.specs.Internal.Standings.{standing_of}
use Rattle.decision_explanation.proofs.InForceFacts.{left_after, standing_of_rest}
use Rattle.decision_explanation.proofs.in_force.InForce.follow.Goals as goal

pub returns-in_ok-cut-in-Else-clause-standing : goal.returns-in_ok-cut-in-Else-clause-standing
returns-in_ok-cut-in-Else-clause-standing c =
    let old = c.args.self.now in
    let mid = c.cut.new.self in
    let rest = standing_of_rest old mid c.close-count.result (c.cut.ensures.next ∙ c.close-count.ensures.next) (c.in_ok-cut-in-Else.ensures.log ∙ ap (take c.close-count.result) c.close-count.ensures.log) c.close-count.ensures.count
    (ap reverse c.cut.ensures.cases ∙ c.close-count.ensures.cases) in
    rw c.in-Else.is (left_after c.add-in-Else.result (standing_of c.add-in-Else.new.self) (standing_of mid) (without_case (standing_of old)) c.in-Else.first c.in-Else.second rest c.add-in-Else.ensures.standing)
