use Rattle.text_streams.proofs.StreamFacts.{faults_as, writes_as}
use Rattle.request_serving.proofs.FollowingFacts.{followed_of_known}
use Rattle.request_serving.proofs.serving.following.follow_named.Goals as goal

pub returns-in_ok-file-in-Some-clause-whole : goal.returns-in_ok-file-in-Some-clause-whole
returns-in_ok-file-in-Some-clause-whole g c =
    let followed = c.follow_reader-in-Some in
    rw c.in-Some.is (writes_as _ _ (followed_of_known c.args.request.now.options _ _ c.in_ok-file-in-Some.ensures.known) _ _ followed.result followed.ensures.whole)

pub returns-in_ok-file-in-Some-clause-fault : goal.returns-in_ok-file-in-Some-clause-fault
returns-in_ok-file-in-Some-clause-fault g c =
    let followed = c.follow_reader-in-Some in
    rw c.in-Some.is (faults_as _ _ (followed_of_known c.args.request.now.options _ _ c.in_ok-file-in-Some.ensures.known) _ _ followed.result followed.ensures.fault)

pub returns-in-None-clause-whole : goal.returns-in-None-clause-whole
returns-in-None-clause-whole g c = rw c.in-None.is c.follow_reader.ensures.whole

pub returns-in-None-clause-fault : goal.returns-in-None-clause-fault
returns-in-None-clause-fault g c = rw c.in-None.is c.follow_reader.ensures.fault
