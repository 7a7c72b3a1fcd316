use Rattle.text_streams.proofs.StreamFacts.{faults_as, writes_as}
use Rattle.request_serving.proofs.OutcomeFacts.{outcomes_of_known}
use Rattle.request_serving.proofs.serving.listing.list_named.Goals as goal

pub returns-in_ok-program-in-Some-clause-whole : goal.returns-in_ok-program-in-Some-clause-whole
returns-in_ok-program-in-Some-clause-whole g c =
    let listed = c.list_outcomes-in-Some in
    rw c.in-Some.is (writes_as _ _ (outcomes_of_known c.args.request.now.options _ _ c.in_ok-program-in-Some.ensures.known) _ _ listed.result listed.ensures.whole)

pub returns-in_ok-program-in-Some-clause-fault : goal.returns-in_ok-program-in-Some-clause-fault
returns-in_ok-program-in-Some-clause-fault g c =
    let listed = c.list_outcomes-in-Some in
    rw c.in-Some.is (faults_as _ _ (outcomes_of_known c.args.request.now.options _ _ c.in_ok-program-in-Some.ensures.known) _ _ listed.result listed.ensures.fault)
