use Rattle.text_streams.proofs.StreamFacts.{faults_as, writes_as}
use Rattle.request_serving.proofs.LoggingFacts.{logged_of_known}
use Rattle.request_serving.proofs.serving.logging.log_named.Goals as goal

pub returns-in_ok-file-in-Some-clause-whole : goal.returns-in_ok-file-in-Some-clause-whole
returns-in_ok-file-in-Some-clause-whole g c =
    let read = c.log_reader-in-Some in
    rw c.in-Some.is (writes_as _ _ (logged_of_known c.args.request.now.options _ _ c.in_ok-file-in-Some.ensures.known) _ _ read.result read.ensures.whole)

pub returns-in_ok-file-in-Some-clause-left : goal.returns-in_ok-file-in-Some-clause-left
returns-in_ok-file-in-Some-clause-left g c =
    let read = c.log_reader-in-Some in
    rw c.in-Some.is (faults_as _ _ (logged_of_known c.args.request.now.options _ _ c.in_ok-file-in-Some.ensures.known) _ _ read.result read.ensures.left)
