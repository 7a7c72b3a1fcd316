-- How the program ends: what it has written to its output and to its errors, and its status.
use Rattle.std.specs.Prelude.{◌≡◌, ◌≢◌, ◌⊎◌, ℕ, List, [], ◌∷◌, ◌++◌, codes, string_bytes, Option}
use Rattle.std.specs.Fmt.{decimal}
use Rattle.std.specs.Io.KnownBytes.{Appends, Keeps}
use Rattle.trace_reports.specs.declared.verdicts.Verdict.{Verdict}
use Rattle.trace_reports.specs.declared.verdicts.Verdict.TheVariants.{Refused}
use Rattle.text_streams.specs.declared.faults.Fault.{Fault}
use Rattle.text_streams.specs.declared.faults.Fault.TheVariants.{OutOfMemory, Read, Write, NoThread, Missing}
use Rattle.text_streams.specs.Streams.{AppendsPrefix}
use Rattle.trace_judging.specs.Checks.{IsCertReport}
use Rattle.text_streams.specs.WrittenTexts.{LeavesAtFault, WritesWhole}
use Rattle.text_streams.specs.Readings.{ReadsAs}
use Rattle.trace_reports.specs.Renderings.{IsTextOfInput}
use Rattle.trace_batches.specs.Batches.{BatchText, IsBatchFault, LeavesBatch, WritesBatch}
use Rattle.request_options.specs.declared.batches.BatchPrinting.{BatchPrinting}
use Rattle.trace_reports.specs.declared.answers.Answer.{Answer}
use Rattle.request_options.specs.declared.logs.LogOptions.{LogOptions}
use Rattle.log_evidence.specs.LogChecks.{IsLogCheckOfReaders}
use Rattle.log_reports.specs.LogReports.{IsLogReportOfReader}
use Rattle.outcome_reports.specs.Outcomes.{IsOutcomesOfReader}
use Rattle.run_following.specs.Reports.{IsRunReportOfReader}
use Rattle.request_options.specs.declared.following.FollowOptions.{FollowOptions}
use Rattle.outcome_reports.specs.SeenTraces.{IsSeenOfReaders}
use Rattle.request_serving.specs.Batches.{AreTextsOfBatch}
use Rattle.run_serving.specs.Campaigning.{IsCampaignText, LeavesCampaignText}
use Rattle.request_serving.specs.Deciding.{IsDecided, IsDecidedLog, IsVerificationOfNth}
use Rattle.request_serving.specs.Evidence.{IsReportOfNth}
use Rattle.run_serving.specs.MadePrograms.{IsMadeText, LeavesMadeText}
use Rattle.request_texts.specs.NthTraces.{IsWrittenOfNth}
use Rattle.request_texts.specs.OpenedFiles.{text_bytes}
use Rattle.request_serving.specs.Presentations.{followed_as, run_refused_in, log_refused_as, logged_as, refused_as, rendered_as}
use Rattle.request_serving.specs.Reducing.{IsReduced}
use Rattle.run_serving.specs.Replaying.{IsReplayText}
use Rattle.run_serving.specs.Running.{IsRunText, IsRunTimesText, LeavesRunTimes}
use Rattle.trace_reports.specs.Statuses.{status_of, status_of_answer}
use Rattle.run_serving.specs.declared.failures.RunFailure.{RunFailure}
use Rattle.run_serving.specs.declared.failures.RunFailure.TheVariants.{Fault as ByFault, Torn, OtherProgram}
use Rattle.command_line.specs.declared.options.Presentation.{Presentation}
use Rattle.command_line.specs.declared.options.RunOptions.{RunOptions}
use Rattle.command_line.specs.declared.options.UnitOptions.{UnitOptions}
use Rattle.command_line.specs.declared.requests.Request.{Request}
use Rattle.command_line.specs.declared.requests.Request.TheVariants.{Show, Refuse}
use Rattle.command_line.specs.Commands.{IsAskedFor}
use Rattle.command_line.specs.Refusals.{Refuses}
use Rattle.command_line.specs.Spellings.{Asks, AsksHelp}
use Rattle.command_line.specs.Requests.{Asked, Text, judging, deciding, deciding_log, reducing, batching, logging, following, checking, verifying, verifying_log, listing, counting, replaying, running, repeating, making, campaigning, showing, refusing}

-- ---- the lines of faults

-- the line that names a fault
abbrev pub fault_line : List ℕ → List ℕ
fault_line name = codes "FAULT " ++ name ++ 10 ∷ []

-- Known errors grow by the fault's line or a prefix of it, since their writer may fail.
abbrev pub WritesFaultLine : Option (List ℕ) → Option (List ℕ) → Fault → Type 0
WritesFaultLine before errors OutOfMemory = AppendsPrefix before errors (fault_line (codes "OutOfMemory"))
WritesFaultLine before errors Read = AppendsPrefix before errors (fault_line (codes "Read"))
WritesFaultLine before errors Write = AppendsPrefix before errors (fault_line (codes "Write"))
WritesFaultLine before errors NoThread = AppendsPrefix before errors (fault_line (codes "NoThread"))
WritesFaultLine before errors (Missing seed) = AppendsPrefix before errors (fault_line (codes "Missing " ++ decimal seed))

-- Known errors grow by the failure's line or a prefix of it, since their writer may fail.
abbrev pub WritesFailureLine : Option (List ℕ) → Option (List ℕ) → RunFailure → Type 0
WritesFailureLine before errors (ByFault fault) = WritesFaultLine before errors fault
WritesFailureLine before errors (Torn p) = AppendsPrefix before errors (fault_line (codes "Torn " ++ decimal p))
WritesFailureLine before errors OtherProgram = AppendsPrefix before errors (fault_line (codes "OtherProgram"))

-- ---- what was written, and the status

-- what the output and the errors held before, and what they hold at the end, where this is known
pub record Outputs : Type 0 where
  pub written_before : Option (List ℕ)
  pub written : Option (List ℕ)
  pub errors_before : Option (List ℕ)
  pub errors : Option (List ℕ)

abbrev pub outputs : Option (List ℕ) → Option (List ℕ) → Option (List ℕ) → Option (List ℕ) → Outputs
outputs written_before written errors_before errors = record { written_before = written_before; written = written; errors_before = errors_before; errors = errors }

-- The fault's line was written to the errors, and the status is 4.
abbrev pub EndsByFault : Fault → Outputs → ℕ → Type 0
EndsByFault fault o status = WritesFaultLine o.errors_before o.errors fault × (status ≡ 4)

-- The output grows by a text of this kind and the errors by nothing, and the status is that of what the text says; or a fault left what it leaves of such
-- a text.
abbrev pub Ends : {X : Type 0} → (List ℕ → X → Type 0) → (X → ℕ) → (Option (List ℕ) → Option (List ℕ) → Fault → Type 0) → Outputs → ℕ → Type 0
Ends {X} is_text status_by leaves o status =
    ((said : X) × WritesWhole is_text o.written_before o.written said × Keeps o.errors_before o.errors × (status ≡ status_by said))
    ⊎ ((fault : Fault) × leaves o.written_before o.written fault × EndsByFault fault o status)

-- a report, with the status of its verdict; or a fault left nothing or, on Write, a prefix of the report
abbrev pub EndsByReport : (List ℕ → Verdict → Type 0) → Outputs → ℕ → Type 0
EndsByReport is_report o status = Ends is_report status_of (LeavesAtFault is_report) o status

-- a text that has a status
abbrev pub EndsByText : (List ℕ → ℕ → Type 0) → (Option (List ℕ) → Option (List ℕ) → Fault → Type 0) → Outputs → ℕ → Type 0
EndsByText is_text leaves o status = Ends is_text (λ said. said) leaves o status

-- the verdict on a trace in this form: on the only one of a reader's bytes, or on the one of this number
abbrev pub IsVerdictAsAsked : Presentation → Option ℕ → Option (List ℕ) → List ℕ → Verdict → Type 0
IsVerdictAsAsked presentation nth remaining text verdict = ReadsAs remaining (λ input. IsWrittenOfNth Refused nth (IsTextOfInput (rendered_as presentation) (refused_as presentation)) input text verdict)

-- the report of the certificate that a reader has on the only trace of another reader's bytes, or on the one of this number
abbrev pub IsCheckOfNth : Option ℕ → Option (List ℕ) → Option (List ℕ) → List ℕ → Verdict → Type 0
IsCheckOfNth nth traces certs text verdict = IsReportOfNth IsCertReport Refused nth traces certs text verdict

-- A text of this kind, with the status of what it says; or a fault left nothing or, on Write, a prefix of such a text. No thread is started for it, so none
-- is refused.
abbrev pub EndsWithoutThread : {X : Type 0} → (List ℕ → X → Type 0) → (X → ℕ) → Outputs → ℕ → Type 0
EndsWithoutThread {X} is_text status_by o status = Ends is_text status_by (λ old new fault. (fault ≢ NoThread) × LeavesAtFault is_text old new fault) o status

-- What is printed of the traces of such texts, which stand one after the other: the output grows by the text of their batch, and the errors
-- by its notes. Or a fault left a prefix of both, and then its line was written to the errors.
abbrev pub EndsBatched : BatchPrinting → (List BatchText → Type 0) → Outputs → ℕ → Type 0
EndsBatched printing are_texts o status =
    ((verdict : Answer) × ((texts : List BatchText) × are_texts texts × WritesBatch printing texts o.written_before o.written o.errors_before o.errors verdict)
    × (status ≡ status_of_answer verdict))
    ⊎ ((fault : Fault) × IsBatchFault fault
    × ((noted : Option (List ℕ)) × ((texts : List BatchText) × are_texts texts × LeavesBatch printing texts o.written_before o.written o.errors_before noted)
    × WritesFaultLine noted o.errors fault)
    × (status ≡ 4))

-- The output grows by a text of this kind, with the status of what the text says; notes on what it doesn't say, or a prefix of them, may be written to the
-- errors. Or a fault left nothing or, on Write, a prefix of such a text.
abbrev pub EndsWithNotes : {X : Type 0} → (List ℕ → X → Type 0) → (X → ℕ) → Outputs → ℕ → Type 0
EndsWithNotes {X} is_text status_by o status =
    ((said : X) × WritesWhole is_text o.written_before o.written said × ((notes : List ℕ) × AppendsPrefix o.errors_before o.errors notes) × (status ≡ status_by said))
    ⊎ ((fault : Fault) × LeavesAtFault is_text o.written_before o.written fault × EndsByFault fault o status)

-- what is said of the log that a reader's bytes spell, or of its refusal, in the form that the options name
abbrev pub IsLogged : LogOptions → Option (List ℕ) → List ℕ → Answer → Type 0
IsLogged options remaining text answer = IsLogReportOfReader (logged_as options.form) (log_refused_as options.form) options remaining text answer

-- what is said of the run that a reader's bytes spell, as far as it is followed, or of their refusal, in the form that the options name
abbrev pub IsFollowedRun : FollowOptions → Option (List ℕ) → List ℕ → Answer → Type 0
IsFollowedRun options remaining text answer = IsRunReportOfReader (followed_as options) (run_refused_in options.format) options remaining text answer

-- what is said of a log, and beside it notes
abbrev pub EndsLogged : LogOptions → Option (List ℕ) → Outputs → ℕ → Type 0
EndsLogged options remaining o status = EndsWithNotes (IsLogged options remaining) status_of_answer o status

-- The line that a run gave no record was written to the errors.
abbrev pub WritesUnrecorded : Outputs → Type 0
WritesUnrecorded o =
    ((p : ℕ) × AppendsPrefix o.errors_before o.errors (fault_line (codes "Torn " ++ decimal p))) ⊎ AppendsPrefix o.errors_before o.errors (fault_line (codes "OtherProgram"))

-- A run gave no record: the output is as it was, the line of the fault was written to the errors, and the status is 4.
abbrev pub EndsUnrecorded : Outputs → ℕ → Type 0
EndsUnrecorded o status = Keeps o.written_before o.written × (status ≡ 4) × WritesUnrecorded o

-- what is printed of a run, where a reader has these bytes of the program, or that it gave no record
abbrev pub EndsRun : RunOptions → Option (List ℕ) → Outputs → ℕ → Type 0
EndsRun options programs o status = EndsByText (IsRunText options programs) (LeavesAtFault (IsRunText options programs)) o status ⊎ EndsUnrecorded o status

-- What is printed of so many runs, where a reader has these bytes of the program; or one of them gave no record, or a fault came, and then the line that says so was
-- written to the errors, and the status is 4.
abbrev pub EndsRunTimes : UnitOptions → ℕ → Option (List ℕ) → Outputs → ℕ → Type 0
EndsRunTimes options times programs o status =
    EndsByText (IsRunTimesText options times programs) (λ old new fault. LeavesRunTimes options times programs old new) o status
    ⊎ (LeavesRunTimes options times programs o.written_before o.written × (status ≡ 4) × WritesUnrecorded o)

-- The output grows by the text and the errors by nothing, and the status is 0; or the fault Write left a prefix of the text.
abbrev pub EndsShowing : List ℕ → Outputs → ℕ → Type 0
EndsShowing text o status =
    (Appends o.written_before o.written text × Keeps o.errors_before o.errors × (status ≡ 0))
    ⊎ (AppendsPrefix o.written_before o.written text × EndsByFault Write o status)

-- The errors grow by the text or a prefix of it, since their writer may fail, and the output by nothing; and the status is 2.
abbrev pub EndsRefusing : List ℕ → Outputs → ℕ → Type 0
EndsRefusing text o status = Keeps o.written_before o.written × AppendsPrefix o.errors_before o.errors text × (status ≡ 2)

-- memory ran out before anything was written to the output
abbrev pub EndsOutOfMemory : Outputs → ℕ → Type 0
EndsOutOfMemory o status = Keeps o.written_before o.written × EndsByFault OutOfMemory o status

-- ---- what requests and arguments lead to

-- what was asked for was done, where standard input has these bytes, and the file of each name those
abbrev pub EndsAsAsked : Asked → Option (List ℕ) → (List ℕ → Option (List ℕ)) → Outputs → ℕ → Type 0
EndsAsAsked (judging presentation file workers nth) input files o status = EndsByReport (IsVerdictAsAsked presentation nth (text_bytes file input files)) o status
EndsAsAsked (deciding presentation file workers nth effort) input files o status =
    let is_text = IsDecided presentation effort nth (text_bytes file input files) in Ends is_text status_of_answer (LeavesAtFault is_text) o status
EndsAsAsked (reducing file nth) input files o status = EndsWithNotes (IsReduced nth (text_bytes file input files)) status_of o status
EndsAsAsked (batching texts workers printing) input files o status = EndsBatched printing (AreTextsOfBatch texts input files) o status
EndsAsAsked (logging file options) input files o status = EndsLogged options (text_bytes file input files) o status
EndsAsAsked (deciding_log file effort needs_end) input files o status = EndsWithoutThread (IsDecidedLog effort needs_end (text_bytes file input files)) status_of_answer o status
EndsAsAsked (following file options) input files o status = EndsWithoutThread (IsFollowedRun options (text_bytes file input files)) status_of_answer o status
EndsAsAsked (checking trace certificate nth) input files o status = EndsWithoutThread (IsCheckOfNth nth (text_bytes trace input files) (text_bytes certificate input files)) status_of o status
EndsAsAsked (verifying trace evidence nth) input files o status =
    EndsWithoutThread (IsVerificationOfNth nth (text_bytes trace input files) (text_bytes evidence input files)) status_of_answer o status
EndsAsAsked (verifying_log log evidence) input files o status =
    EndsWithoutThread (IsLogCheckOfReaders (text_bytes log input files) (text_bytes evidence input files)) status_of_answer o status
EndsAsAsked (listing program options) input files o status = EndsWithoutThread (IsOutcomesOfReader options (text_bytes program input files)) status_of_answer o status
EndsAsAsked (counting program stream limit) input files o status =
    EndsWithoutThread (IsSeenOfReaders limit (text_bytes program input files) (text_bytes stream input files)) status_of_answer o status
EndsAsAsked (replaying options program schedule) input files o status =
    let is_text = IsReplayText options (text_bytes program input files) (text_bytes schedule input files) in EndsByText is_text (LeavesAtFault is_text) o status
EndsAsAsked (running options seed turns program) input files o status = EndsRun options (text_bytes program input files) o status
EndsAsAsked (repeating unit seed turns times program) input files o status = EndsRunTimes unit times (text_bytes program input files) o status
EndsAsAsked (making options) input files o status = EndsByText (IsMadeText options) (LeavesMadeText options) o status
EndsAsAsked (campaigning options) input files o status = EndsByText (IsCampaignText options) (LeavesCampaignText options) o status
EndsAsAsked showing input files o status = (text : Text) × EndsShowing text o status
EndsAsAsked refusing input files o status = (text : Text) × EndsRefusing text o status

-- a request that has a text to show, or one that refuses the arguments, ends with its own
abbrev pub EndsWithText : Request → Outputs → ℕ → Type 0
EndsWithText (Show text) o status = EndsShowing (string_bytes text) o status
EndsWithText (Refuse text) o status = EndsRefusing (string_bytes text) o status
EndsWithText request o status = Unit {0}

-- what was asked for was done, with any text, or memory ran out while the arguments were read
abbrev pub Does : Asked → Option (List ℕ) → (List ℕ → Option (List ℕ)) → Outputs → ℕ → Type 0
Does asked input files o status = EndsAsAsked asked input files o status ⊎ EndsOutOfMemory o status

-- what clap says that the arguments ask for was done, or memory ran out while they were read
abbrev pub DoesWhatClapSays : List Text → Option (List ℕ) → (List ℕ → Option (List ℕ)) → Outputs → ℕ → Type 0
DoesWhatClapSays arguments input files o status = ((asked : Asked) × IsAskedFor arguments asked × EndsAsAsked asked input files o status) ⊎ EndsOutOfMemory o status

-- What the arguments lead to, where standard input has these bytes, and the file of each name those: in a usual spelling what they ask for was done, a
-- help or the version shown, or they were refused; and of any arguments what clap says.
pub record LeadTo (arguments : List Text) (input : Option (List ℕ)) (files : List ℕ → Option (List ℕ)) (o : Outputs) (status : ℕ) : Type 0 where
  pub asked : (asked : Asked) → Asks arguments asked → Does asked input files o status
  pub helped : AsksHelp arguments → Does showing input files o status
  pub refused : Refuses arguments → Does refusing input files o status
  pub parsed : DoesWhatClapSays arguments input files o status

-- ---- arguments that can't be had

-- the line that refuses arguments of which one is not UTF-8
abbrev pub invalid_utf8_line : List ℕ
invalid_utf8_line = codes "error: invalid UTF-8 was detected in one or more arguments" ++ 10 ∷ []
