use Rattle.text_streams.proofs.StreamFacts.{faults_as, writes_as}
use Rattle.request_serving.proofs.LoggingFacts.{log_decided_of_known}
use Rattle.request_serving.proofs.serving.log_deciding.decide_log_named.Goals as goal

pub returns-in_ok-file-in-Some-clause-whole : goal.returns-in_ok-file-in-Some-clause-whole
returns-in_ok-file-in-Some-clause-whole g c =
    let decided = c.decide_log-in-Some in
    rw c.in-Some.is (writes_as _ _ (log_decided_of_known c.args.request.now.effort c.args.request.now.needs_end _ _ c.in_ok-file-in-Some.ensures.known) _ _ decided.result decided.ensures.decided)

pub returns-in_ok-file-in-Some-clause-fault : goal.returns-in_ok-file-in-Some-clause-fault
returns-in_ok-file-in-Some-clause-fault g c =
    let decided = c.decide_log-in-Some in
    rw c.in-Some.is (faults_as _ _ (log_decided_of_known c.args.request.now.effort c.args.request.now.needs_end _ _ c.in_ok-file-in-Some.ensures.known) _ _ decided.result decided.ensures.fault)

pub returns-in-None-clause-whole : goal.returns-in-None-clause-whole
returns-in-None-clause-whole g c = rw c.in-None.is c.decide_log.ensures.decided

pub returns-in-None-clause-fault : goal.returns-in-None-clause-fault
returns-in-None-clause-fault g c = rw c.in-None.is c.decide_log.ensures.fault
