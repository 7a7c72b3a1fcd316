use Rattle.std.proofs.Common.{subst}
use Rattle.std.proofs.lemmas.Result.{on_ok_weaker}
use Rattle.program_chains.specs.LogEvents.{log_trace}
use Rattle.value_check.specs.Internal.Walks.{LineHolds}
use Rattle.value_check.proofs.FollowingFacts.{of_events}
use Rattle.value_check.proofs.InForceFacts.{order_of_events, read_of_events}
use Rattle.value_check.proofs.in_force.InForce.follow.Goals as goal

pub returns-in-Step : goal.returns-in-Step
returns-in-Step c =
    let t = log_trace c.args.log.now in
    on_ok_weaker c.add.result
    (λ added p at holds. rw c.in-Step.is (added t p at (of_events t p.steps c.in-Step.step (subst (LineHolds t p) c.in-Step.is holds)))) c.add.ensures

pub returns-in-ReadCase : goal.returns-in-ReadCase
returns-in-ReadCase c =
    let t = log_trace c.args.log.now in
    on_ok_weaker c.begin_first_part.result
    (λ begun p at holds. rw c.in-ReadCase.is
    (begun t p at (read_of_events t c.in-ReadCase.load c.in-ReadCase.source (subst (LineHolds t p) c.in-ReadCase.is holds)))) c.begin_first_part.ensures

pub returns-in-BeforeCase : goal.returns-in-BeforeCase
returns-in-BeforeCase c =
    let t = log_trace c.args.log.now in
    on_ok_weaker c.begin_first_part-in-BeforeCase.result
    (λ begun p at holds. rw c.in-BeforeCase.is
    (begun t p at (order_of_events t c.in-BeforeCase.first c.in-BeforeCase.second (subst (LineHolds t p) c.in-BeforeCase.is holds)))) c.begin_first_part-in-BeforeCase.ensures

pub returns-in-Else : goal.returns-in-Else
returns-in-Else c = on_ok_weaker c.begin_second_part.result (λ begun p at holds. rw c.in-Else.is (begun p at)) c.begin_second_part.ensures

pub returns-in-End : goal.returns-in-End
returns-in-End c = λ p at holds. rw c.in-End.is at
