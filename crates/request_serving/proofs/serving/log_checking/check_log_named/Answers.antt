use Rattle.unit_core.proofs.RecordFacts.{holds_ok}
use Rattle.text_streams.proofs.StreamFacts.{faults_as, writes_as}
use Rattle.request_texts.proofs.KnownFacts.{knows_itself, opens_all, opens_both}
use Rattle.request_serving.proofs.LoggingFacts.{log_check_of_known}
use Rattle.request_serving.proofs.serving.log_checking.check_log_named.Goals as goal

pub returns-in_ok-evidence-in-Files-clause-whole : goal.returns-in_ok-evidence-in-Files-clause-whole
returns-in_ok-evidence-in-Files-clause-whole g c =
    let also = rw c.in_ok-log-in-Files.ensures.same at c.in_ok-evidence-in-Files.ensures.known in
    rw c.in-Files.is (writes_as _ _ (log_check_of_known _ _ _ _ c.in_ok-log-in-Files.ensures.known also) _ _ c.check_log_evidence.result c.check_log_evidence.ensures.report)

pub returns-in_ok-evidence-in-Files-clause-fault : goal.returns-in_ok-evidence-in-Files-clause-fault
returns-in_ok-evidence-in-Files-clause-fault g c =
    let also = rw c.in_ok-log-in-Files.ensures.same at c.in_ok-evidence-in-Files.ensures.known in
    rw c.in-Files.is (faults_as _ _ (log_check_of_known _ _ _ _ c.in_ok-log-in-Files.ensures.known also) _ _ c.check_log_evidence.result c.check_log_evidence.ensures.fault)

pub returns-in_ok-evidence-in-Files-clause-first : goal.returns-in_ok-evidence-in-Files-clause-first
returns-in_ok-evidence-in-Files-clause-first g c =
    rw c.in-Files.is (opens_all _ _ _ (opens_both (g.O.Environment.opened c.args.files.now) (g.O.Environment.opened c.open.new.files) (g.O.Environment.opened c.open-in-Files.new.files) c.in-Files.log.now c.in-Files.evidence.now
    c.in_ok-log-in-Files.ensures.opened c.in_ok-evidence-in-Files.ensures.opened))

pub returns-in_err-evidence-in-Files-clause-first : goal.returns-in_err-evidence-in-Files-clause-first
returns-in_err-evidence-in-Files-clause-first g c =
    rw c.in-Files.is (opens_all _ _ _ (opens_both (g.O.Environment.opened c.args.files.now) (g.O.Environment.opened c.open.new.files) (g.O.Environment.opened c.open-in-Files.new.files) c.in-Files.log.now c.in-Files.evidence.now
    c.in_ok-log-in-Files.ensures.opened c.in_err-evidence-in-Files.ensures.opened))

pub returns-in_ok-evidence-in-InputAndFile-clause-whole : goal.returns-in_ok-evidence-in-InputAndFile-clause-whole
returns-in_ok-evidence-in-InputAndFile-clause-whole g c =
    rw c.in-InputAndFile.is (writes_as _ _ (log_check_of_known _ _ _ _ (knows_itself _) c.in_ok-evidence-in-InputAndFile.ensures.known) _ _ c.check_log_evidence-in-InputAndFile.result c.check_log_evidence-in-InputAndFile.ensures.report)

pub returns-in_ok-evidence-in-InputAndFile-clause-fault : goal.returns-in_ok-evidence-in-InputAndFile-clause-fault
returns-in_ok-evidence-in-InputAndFile-clause-fault g c =
    rw c.in-InputAndFile.is (faults_as _ _ (log_check_of_known _ _ _ _ (knows_itself _) c.in_ok-evidence-in-InputAndFile.ensures.known) _ _ c.check_log_evidence-in-InputAndFile.result c.check_log_evidence-in-InputAndFile.ensures.fault)

pub returns-in_ok-evidence-in-InputAndFile-clause-first : goal.returns-in_ok-evidence-in-InputAndFile-clause-first
returns-in_ok-evidence-in-InputAndFile-clause-first g c = rw c.in-InputAndFile.is (opens_all _ _ _ c.in_ok-evidence-in-InputAndFile.ensures.opened)

pub returns-in_ok-log-in-FileAndInput-clause-whole : goal.returns-in_ok-log-in-FileAndInput-clause-whole
returns-in_ok-log-in-FileAndInput-clause-whole g c =
    let checked = c.check_log_evidence-in-FileAndInput in
    rw c.in-FileAndInput.is (writes_as _ _ (log_check_of_known _ _ _ _ c.in_ok-log-in-FileAndInput.ensures.known (knows_itself _)) _ _ checked.result checked.ensures.report)

pub returns-in_ok-log-in-FileAndInput-clause-fault : goal.returns-in_ok-log-in-FileAndInput-clause-fault
returns-in_ok-log-in-FileAndInput-clause-fault g c =
    let checked = c.check_log_evidence-in-FileAndInput in
    rw c.in-FileAndInput.is (faults_as _ _ (log_check_of_known _ _ _ _ c.in_ok-log-in-FileAndInput.ensures.known (knows_itself _)) _ _ checked.result checked.ensures.fault)

pub returns-in_ok-log-in-FileAndInput-clause-first : goal.returns-in_ok-log-in-FileAndInput-clause-first
returns-in_ok-log-in-FileAndInput-clause-first g c = rw c.in-FileAndInput.is (opens_all _ _ _ c.in_ok-log-in-FileAndInput.ensures.opened)

pub returns-in_ok-evidence-in-Files-clause-opened : goal.returns-in_ok-evidence-in-Files-clause-opened
returns-in_ok-evidence-in-Files-clause-opened g c =
    rw c.in-Files.is (holds_ok c.check_log_evidence.result _ (opens_both (g.O.Environment.opened c.args.files.now) (g.O.Environment.opened c.open.new.files) (g.O.Environment.opened c.open-in-Files.new.files) c.in-Files.log.now c.in-Files.evidence.now
    c.in_ok-log-in-Files.ensures.opened c.in_ok-evidence-in-Files.ensures.opened))
