use Rattle.command_line.specs.Requests.{asked_of, files_of}
use Rattle.text_streams.specs.WrittenTexts.{LeavesAtFault}
use Rattle.request_serving.specs.Deciding.{IsDecided, IsDecidedLog}
use Rattle.request_serving.specs.Endings.{IsFollowedRun, IsLogged, IsVerdictAsAsked, Outputs, outputs}
use Rattle.request_texts.specs.OpenedFiles.{name_in, text_bytes}
use Rattle.run_serving.specs.Replaying.{IsReplayText}
use Rattle.trace_reports.specs.Statuses.{status_of, status_of_answer}
use Rattle.request_serving.specs.Batches.{AreTextsOfBatch}
use Rattle.request_serving.specs.Internal.Batching.{files_in}
use Rattle.request_serving.proofs.BatchingFacts.{ends_batched, read_files, unread_files}
use Rattle.request_serving.proofs.LoggingFacts.{ends_noted}
use Rattle.request_serving.specs.Reducing.{IsReduced}
use Rattle.request_serving.proofs.EndFacts.{at_text, ends_as, without_thread}
use Rattle.request_texts.proofs.KnownFacts.{named, opens_all, unnamed}
use Rattle.std.specs.Prelude.{◌≢◌}
use Rattle.outcome_reports.specs.Outcomes.{IsOutcomesOfReader}
use Rattle.text_streams.specs.declared.faults.Fault.TheVariants.{NoThread}
use Rattle.request_serving.proofs.RunEnds.{ends_run, ends_run_times}
use Rattle.request_serving.proofs.LawfulFacts.{known_status, lawful_status}
use Rattle.request_serving.proofs.serving.serve.Goals as goal

pub returns-in-Judge-clause-ends : goal.returns-in-Judge-clause-ends
returns-in-Judge-clause-ends g c =
    let o : Outputs = outputs (g.W.Write.contents c.args.writer.now) (g.W.Write.contents c.judge_named.new.writer) (g.E.Write.contents c.args.errors.now) (g.E.Write.contents c.end.new.errors) in
    let judged = c.in-Judge.request in
    let is_text = IsVerdictAsAsked judged.presentation judged.nth (text_bytes (name_in judged.file) (g.R.Read.remaining c.args.reader.now) (g.O.Environment.bytes c.args.files.now)) in
    rw c.in-Judge.is (ends_as is_text status_of (LeavesAtFault is_text) o c.judge_named.result c.end.result c.judge_named.ensures.presented c.judge_named.ensures.fault c.end.ensures.verdict c.end.ensures.fault)

pub returns-in-Judge-clause-first : goal.returns-in-Judge-clause-first
returns-in-Judge-clause-first g c = rw c.in-Judge.is (opens_all _ _ _ c.judge_named.ensures.opened)

pub returns-in-Judge-clause-unread : goal.returns-in-Judge-clause-unread
returns-in-Judge-clause-unread g c = rw c.in-Judge.is (λ unread. named c.in-Judge.request.file c.judge_named.ensures.unread unread)

pub returns-in-Judge-clause-taken : goal.returns-in-Judge-clause-taken
returns-in-Judge-clause-taken g c = rw c.in-Judge.is (λ reads other.
    at_text c.judge_named.result c.end.result _ _ _ c.end.ensures.fault (c.judge_named.ensures.taken (unnamed c.in-Judge.request.file reads)) other)

pub returns-in-Decide-clause-ends : goal.returns-in-Decide-clause-ends
returns-in-Decide-clause-ends g c =
    let o : Outputs = outputs (g.W.Write.contents c.args.writer.now) (g.W.Write.contents c.decide_named-decided.new.writer) (g.E.Write.contents c.args.errors.now) (g.E.Write.contents c.end_answer.new.errors) in
    let request = c.in-Decide.request in
    let is_text = IsDecided request.presentation request.effort request.nth (text_bytes (name_in request.file) (g.R.Read.remaining c.args.reader.now) (g.O.Environment.bytes c.args.files.now)) in
    rw c.in-Decide.is (ends_as is_text status_of_answer (LeavesAtFault is_text) o c.decide_named-decided.result c.end_answer.result c.decide_named-decided.ensures.decided c.decide_named-decided.ensures.fault c.end_answer.ensures.answer c.end_answer.ensures.fault)

pub returns-in-Decide-clause-first : goal.returns-in-Decide-clause-first
returns-in-Decide-clause-first g c = rw c.in-Decide.is (opens_all _ _ _ c.decide_named-decided.ensures.opened)

pub returns-in-Decide-clause-unread : goal.returns-in-Decide-clause-unread
returns-in-Decide-clause-unread g c = rw c.in-Decide.is (λ unread. named c.in-Decide.request.file c.decide_named-decided.ensures.unread unread)

pub returns-in-Decide-clause-taken : goal.returns-in-Decide-clause-taken
returns-in-Decide-clause-taken g c = rw c.in-Decide.is (λ reads other.
    at_text c.decide_named-decided.result c.end_answer.result _ _ _ c.end_answer.ensures.fault (c.decide_named-decided.ensures.taken (unnamed c.in-Decide.request.file reads)) other)

pub returns-in-Reduce-clause-ends : goal.returns-in-Reduce-clause-ends
returns-in-Reduce-clause-ends g c =
    let o : Outputs = outputs (g.W.Write.contents c.args.writer.now) (g.W.Write.contents c.reduce_named-reduced.new.writer) (g.E.Write.contents c.args.errors.now) (g.E.Write.contents c.end-in-Reduce.new.errors) in
    let request = c.in-Reduce.request in
    let remaining = text_bytes (name_in request.file) (g.R.Read.remaining c.args.reader.now) (g.O.Environment.bytes c.args.files.now) in
    let reduced = c.reduce_named-reduced.ensures in
    rw c.in-Reduce.is (ends_noted (IsReduced request.nth remaining) status_of (g.E.Write.contents c.reduce_named-reduced.new.errors) o c.reduce_named-reduced.result c.end-in-Reduce.result reduced.whole reduced.left reduced.told reduced.untold c.end-in-Reduce.ensures.verdict c.end-in-Reduce.ensures.fault)

pub returns-in-Reduce-clause-first : goal.returns-in-Reduce-clause-first
returns-in-Reduce-clause-first g c = rw c.in-Reduce.is (opens_all _ _ _ c.reduce_named-reduced.ensures.opened)

pub returns-in-Reduce-clause-unread : goal.returns-in-Reduce-clause-unread
returns-in-Reduce-clause-unread g c = rw c.in-Reduce.is (λ unread. named c.in-Reduce.request.file c.reduce_named-reduced.ensures.unread unread)

pub returns-in-Reduce-clause-taken : goal.returns-in-Reduce-clause-taken
returns-in-Reduce-clause-taken g c = rw c.in-Reduce.is (λ reads other.
    at_text c.reduce_named-reduced.result c.end-in-Reduce.result _ _ _ c.end-in-Reduce.ensures.fault (c.reduce_named-reduced.ensures.taken (unnamed c.in-Reduce.request.file reads)) other)

pub returns-in-Batch-clause-ends : goal.returns-in-Batch-clause-ends
returns-in-Batch-clause-ends g c =
    let o : Outputs = outputs (g.W.Write.contents c.args.writer.now) (g.W.Write.contents c.batch_named-judged.new.writer) (g.E.Write.contents c.args.errors.now) (g.E.Write.contents c.end_answer-in-Batch.new.errors) in
    let request = c.in-Batch.request in
    let are_texts = AreTextsOfBatch (files_in request.texts.items) (g.R.Read.remaining c.args.reader.now) (g.O.Environment.bytes c.args.files.now) in
    let judged = c.batch_named-judged.ensures in
    rw c.in-Batch.is (ends_batched request.printing are_texts (g.E.Write.contents c.batch_named-judged.new.errors) o c.batch_named-judged.result c.end_answer-in-Batch.result judged.whole judged.left judged.fault c.end_answer-in-Batch.ensures.answer c.end_answer-in-Batch.ensures.fault)

pub returns-in-Batch-clause-first : goal.returns-in-Batch-clause-first
returns-in-Batch-clause-first g c = rw c.in-Batch.is c.batch_named-judged.ensures.first

pub returns-in-Batch-clause-opened : goal.returns-in-Batch-clause-opened
returns-in-Batch-clause-opened g c = λ other.
    rw c.in-Batch.is (at_text c.batch_named-judged.result c.end_answer-in-Batch.result _ _ _ c.end_answer-in-Batch.ensures.fault c.batch_named-judged.ensures.opened other)

pub returns-in-Batch-clause-unread : goal.returns-in-Batch-clause-unread
returns-in-Batch-clause-unread g c = rw c.in-Batch.is (λ unread. c.batch_named-judged.ensures.unread (unread_files (files_in c.in-Batch.request.texts.items) unread))

pub returns-in-Batch-clause-taken : goal.returns-in-Batch-clause-taken
returns-in-Batch-clause-taken g c = rw c.in-Batch.is (λ reads other.
    at_text c.batch_named-judged.result c.end_answer-in-Batch.result _ _ _ c.end_answer-in-Batch.ensures.fault (c.batch_named-judged.ensures.taken (read_files (files_in c.in-Batch.request.texts.items) reads)) other)

pub returns-in-Log-clause-ends : goal.returns-in-Log-clause-ends
returns-in-Log-clause-ends g c =
    let o : Outputs = outputs (g.W.Write.contents c.args.writer.now) (g.W.Write.contents c.log_named-reported.new.writer) (g.E.Write.contents c.args.errors.now) (g.E.Write.contents c.end_answer-in-Log.new.errors) in
    let request = c.in-Log.request in
    let remaining = text_bytes (name_in request.file) (g.R.Read.remaining c.args.reader.now) (g.O.Environment.bytes c.args.files.now) in
    let logged = c.log_named-reported.ensures in
    rw c.in-Log.is (ends_noted (IsLogged request.options remaining) status_of_answer (g.E.Write.contents c.log_named-reported.new.errors) o c.log_named-reported.result c.end_answer-in-Log.result logged.whole logged.left logged.told logged.untold c.end_answer-in-Log.ensures.answer c.end_answer-in-Log.ensures.fault)

pub returns-in-Log-clause-first : goal.returns-in-Log-clause-first
returns-in-Log-clause-first g c = rw c.in-Log.is (opens_all _ _ _ c.log_named-reported.ensures.opened)

pub returns-in-Log-clause-unread : goal.returns-in-Log-clause-unread
returns-in-Log-clause-unread g c = rw c.in-Log.is (λ unread. named c.in-Log.request.file c.log_named-reported.ensures.unread unread)

pub returns-in-Log-clause-taken : goal.returns-in-Log-clause-taken
returns-in-Log-clause-taken g c = rw c.in-Log.is (λ reads other.
    at_text c.log_named-reported.result c.end_answer-in-Log.result _ _ _ c.end_answer-in-Log.ensures.fault (c.log_named-reported.ensures.taken (unnamed c.in-Log.request.file reads)) other)

pub returns-in-Replay-clause-ends : goal.returns-in-Replay-clause-ends
returns-in-Replay-clause-ends g c =
    let o : Outputs = outputs (g.W.Write.contents c.args.writer.now) (g.W.Write.contents c.replay_named-replayed.new.writer) (g.E.Write.contents c.args.errors.now) (g.E.Write.contents c.end_with.new.errors) in
    let input = g.R.Read.remaining c.args.reader.now in
    let files = g.O.Environment.bytes c.args.files.now in
    let is_text = IsReplayText c.in-Replay.options (text_bytes (files_of c.in-Replay.texts).0 input files) (text_bytes (files_of c.in-Replay.texts).1 input files) in
    rw c.in-Replay.is (ends_as is_text (λ said. said) (LeavesAtFault is_text) o c.replay_named-replayed.result c.end_with.result c.replay_named-replayed.ensures.text c.replay_named-replayed.ensures.fault c.end_with.ensures.status c.end_with.ensures.fault)

pub returns-in-Replay-clause-first : goal.returns-in-Replay-clause-first
returns-in-Replay-clause-first g c = rw c.in-Replay.is c.replay_named-replayed.ensures.first

pub returns-in-Replay-clause-opened : goal.returns-in-Replay-clause-opened
returns-in-Replay-clause-opened g c = λ other.
    rw c.in-Replay.is (at_text c.replay_named-replayed.result c.end_with.result _ _ _ c.end_with.ensures.fault c.replay_named-replayed.ensures.opened other)

pub returns-in-Run-clause-ends : goal.returns-in-Run-clause-ends
returns-in-Run-clause-ends g c =
    let o : Outputs = outputs (g.W.Write.contents c.args.writer.now) (g.W.Write.contents c.run_named.new.writer) (g.E.Write.contents c.args.errors.now) (g.E.Write.contents c.end_run.new.errors) in
    let run = c.in-Run.request in
    let programs = text_bytes (name_in run.program) (g.R.Read.remaining c.args.reader.now) (g.O.Environment.bytes c.args.files.now) in
    rw c.in-Run.is (ends_run run.options programs o c.run_named.result c.end_run.result c.run_named.ensures.text c.run_named.ensures.fault c.end_run.ensures.status c.end_run.ensures.failure)

pub returns-in-Run-clause-first : goal.returns-in-Run-clause-first
returns-in-Run-clause-first g c = rw c.in-Run.is (opens_all _ _ _ c.run_named.ensures.opened)

pub returns-in-Replay-clause-no_false_alarm : goal.returns-in-Replay-clause-no_false_alarm
returns-in-Replay-clause-no_false_alarm g c = λ lawful. lawful_status (asked_of c.args.request.now) _ _ _ _ (returns-in-Replay-clause-ends g c) lawful

pub returns-in-Run-clause-no_false_alarm : goal.returns-in-Run-clause-no_false_alarm
returns-in-Run-clause-no_false_alarm g c = λ lawful. lawful_status (asked_of c.args.request.now) _ _ _ _ (returns-in-Run-clause-ends g c) lawful

pub returns-in-Replay-clause-no_false_alarm_of_text : goal.returns-in-Replay-clause-no_false_alarm_of_text
returns-in-Replay-clause-no_false_alarm_of_text g c = λ lawful. known_status (asked_of c.args.request.now) _ _ _ _ (returns-in-Replay-clause-ends g c) lawful

pub returns-in-Run-clause-no_false_alarm_of_text : goal.returns-in-Run-clause-no_false_alarm_of_text
returns-in-Run-clause-no_false_alarm_of_text g c = λ lawful. known_status (asked_of c.args.request.now) _ _ _ _ (returns-in-Run-clause-ends g c) lawful

pub returns-in-DecideLog-clause-ends : goal.returns-in-DecideLog-clause-ends
returns-in-DecideLog-clause-ends g c =
    let o : Outputs = outputs (g.W.Write.contents c.args.writer.now) (g.W.Write.contents c.decide_log_named-decided.new.writer) (g.E.Write.contents c.args.errors.now) (g.E.Write.contents c.end_answer-in-DecideLog.new.errors) in
    let request = c.in-DecideLog.request in
    let is_text = IsDecidedLog request.effort request.needs_end (text_bytes (name_in request.file) (g.R.Read.remaining c.args.reader.now) (g.O.Environment.bytes c.args.files.now)) in
    let followed = c.decide_log_named-decided in
    let ended = c.end_answer-in-DecideLog in
    rw c.in-DecideLog.is (ends_as is_text status_of_answer (λ old new fault. (fault ≢ NoThread) × LeavesAtFault is_text old new fault) o followed.result ended.result followed.ensures.whole
    (without_thread is_text _ _ followed.result followed.ensures.no_thread followed.ensures.fault) ended.ensures.answer ended.ensures.fault)

pub returns-in-DecideLog-clause-first : goal.returns-in-DecideLog-clause-first
returns-in-DecideLog-clause-first g c = rw c.in-DecideLog.is (opens_all _ _ _ c.decide_log_named-decided.ensures.opened)

pub returns-in-DecideLog-clause-unread : goal.returns-in-DecideLog-clause-unread
returns-in-DecideLog-clause-unread g c = rw c.in-DecideLog.is (λ unread. named c.in-DecideLog.request.file c.decide_log_named-decided.ensures.unread unread)

pub returns-in-DecideLog-clause-taken : goal.returns-in-DecideLog-clause-taken
returns-in-DecideLog-clause-taken g c = rw c.in-DecideLog.is (λ reads other.
    at_text c.decide_log_named-decided.result c.end_answer-in-DecideLog.result _ _ _ c.end_answer-in-DecideLog.ensures.fault (c.decide_log_named-decided.ensures.taken (unnamed c.in-DecideLog.request.file reads)) other)

pub returns-in-Follow-clause-ends : goal.returns-in-Follow-clause-ends
returns-in-Follow-clause-ends g c =
    let o : Outputs = outputs (g.W.Write.contents c.args.writer.now) (g.W.Write.contents c.follow_named-followed.new.writer) (g.E.Write.contents c.args.errors.now) (g.E.Write.contents c.end_answer-in-Follow.new.errors) in
    let request = c.in-Follow.request in
    let is_text = IsFollowedRun request.options (text_bytes (name_in request.file) (g.R.Read.remaining c.args.reader.now) (g.O.Environment.bytes c.args.files.now)) in
    let followed = c.follow_named-followed in
    let ended = c.end_answer-in-Follow in
    rw c.in-Follow.is (ends_as is_text status_of_answer (λ old new fault. (fault ≢ NoThread) × LeavesAtFault is_text old new fault) o followed.result ended.result followed.ensures.whole
    (without_thread is_text _ _ followed.result followed.ensures.no_thread followed.ensures.fault) ended.ensures.answer ended.ensures.fault)

pub returns-in-Follow-clause-first : goal.returns-in-Follow-clause-first
returns-in-Follow-clause-first g c = rw c.in-Follow.is (opens_all _ _ _ c.follow_named-followed.ensures.opened)

pub returns-in-Follow-clause-unread : goal.returns-in-Follow-clause-unread
returns-in-Follow-clause-unread g c = rw c.in-Follow.is (λ unread. named c.in-Follow.request.file c.follow_named-followed.ensures.unread unread)

pub returns-in-Follow-clause-taken : goal.returns-in-Follow-clause-taken
returns-in-Follow-clause-taken g c = rw c.in-Follow.is (λ reads other.
    at_text c.follow_named-followed.result c.end_answer-in-Follow.result _ _ _ c.end_answer-in-Follow.ensures.fault (c.follow_named-followed.ensures.taken (unnamed c.in-Follow.request.file reads)) other)

pub returns-in-Outcomes-clause-ends : goal.returns-in-Outcomes-clause-ends
returns-in-Outcomes-clause-ends g c =
    let o : Outputs = outputs (g.W.Write.contents c.args.writer.now) (g.W.Write.contents c.list_named-listed.new.writer) (g.E.Write.contents c.args.errors.now) (g.E.Write.contents c.end_answer-in-Outcomes.new.errors) in
    let request = c.in-Outcomes.request in
    let is_text = IsOutcomesOfReader request.options (text_bytes (name_in request.program) (g.R.Read.remaining c.args.reader.now) (g.O.Environment.bytes c.args.files.now)) in
    let listed = c.list_named-listed in
    let ended = c.end_answer-in-Outcomes in
    rw c.in-Outcomes.is (ends_as is_text status_of_answer (λ old new fault. (fault ≢ NoThread) × LeavesAtFault is_text old new fault) o listed.result ended.result listed.ensures.whole
    (without_thread is_text _ _ listed.result listed.ensures.no_thread listed.ensures.fault) ended.ensures.answer ended.ensures.fault)

pub returns-in-Outcomes-clause-first : goal.returns-in-Outcomes-clause-first
returns-in-Outcomes-clause-first g c = rw c.in-Outcomes.is (opens_all _ _ _ c.list_named-listed.ensures.opened)

pub returns-in-Outcomes-clause-unread : goal.returns-in-Outcomes-clause-unread
returns-in-Outcomes-clause-unread g c = rw c.in-Outcomes.is (λ unread. named c.in-Outcomes.request.program c.list_named-listed.ensures.unread unread)

pub returns-in-Outcomes-clause-taken : goal.returns-in-Outcomes-clause-taken
returns-in-Outcomes-clause-taken g c = rw c.in-Outcomes.is (λ reads other.
    at_text c.list_named-listed.result c.end_answer-in-Outcomes.result _ _ _ c.end_answer-in-Outcomes.ensures.fault (c.list_named-listed.ensures.taken (unnamed c.in-Outcomes.request.program reads)) other)

pub returns-in-RunTimes-clause-ends : goal.returns-in-RunTimes-clause-ends
returns-in-RunTimes-clause-ends g c =
    let o : Outputs = outputs (g.W.Write.contents c.args.writer.now) (g.W.Write.contents c.repeat_named-repeated.new.writer) (g.E.Write.contents c.args.errors.now) (g.E.Write.contents c.end_run-in-RunTimes.new.errors) in
    let request = c.in-RunTimes.request in
    let programs = text_bytes (name_in request.program) (g.R.Read.remaining c.args.reader.now) (g.O.Environment.bytes c.args.files.now) in
    let repeated = c.repeat_named-repeated in
    let ended = c.end_run-in-RunTimes in
    rw c.in-RunTimes.is (ends_run_times request.unit request.times programs o repeated.result ended.result repeated.ensures.whole repeated.ensures.left ended.ensures.status ended.ensures.failure)

pub returns-in-RunTimes-clause-first : goal.returns-in-RunTimes-clause-first
returns-in-RunTimes-clause-first g c = rw c.in-RunTimes.is (opens_all _ _ _ c.repeat_named-repeated.ensures.opened)

pub returns-in-RunTimes-clause-no_false_alarm : goal.returns-in-RunTimes-clause-no_false_alarm
returns-in-RunTimes-clause-no_false_alarm g c = λ lawful. lawful_status (asked_of c.args.request.now) _ _ _ _ (returns-in-RunTimes-clause-ends g c) lawful

pub returns-in-RunTimes-clause-no_false_alarm_of_text : goal.returns-in-RunTimes-clause-no_false_alarm_of_text
returns-in-RunTimes-clause-no_false_alarm_of_text g c = λ lawful. known_status (asked_of c.args.request.now) _ _ _ _ (returns-in-RunTimes-clause-ends g c) lawful

pub returns-in-Seen-clause-first : goal.returns-in-Seen-clause-first
returns-in-Seen-clause-first g c = rw c.in-Seen.is c.count_named-counted.ensures.first

pub returns-in-Verify-clause-first : goal.returns-in-Verify-clause-first
returns-in-Verify-clause-first g c = rw c.in-Verify.is c.check_named-verified.ensures.first

pub returns-in-VerifyLog-clause-first : goal.returns-in-VerifyLog-clause-first
returns-in-VerifyLog-clause-first g c = rw c.in-VerifyLog.is c.check_log_named-checked.ensures.first
