-- Lemmas on the reports on logs, and on texts with notes.
use Rattle.std.proofs.Common.{◌≡◌, ◌∙◌, ℕ, Bool, List, ◌++◌, Err, None, Ok, Result, Some, IfErr, IfOk, ap, inl, inr, take}
use Rattle.std.specs.Prelude.{OnErr, Option, codes}
use Rattle.std.specs.Fmt.{decimal}
use Rattle.std.specs.Io.KnownBytes.{Appends, Keeps}
use Rattle.std.proofs.KnownBytes.{Appends-kept}
use Rattle.request_options.specs.declared.logs.LogOptions.{LogOptions}
use Rattle.trace_reports.specs.declared.answers.Answer.{Answer}
use Rattle.log_evidence.specs.LogChecks.{IsLogCheck, IsLogCheckOfReader, IsLogCheckOfReaders}
use Rattle.log_decisions.specs.LogDecisions.{IsLogDecisionText}
use Rattle.log_reports.specs.LogReports.{IsLogReport}
use Rattle.text_streams.proofs.ReadingFacts.{reads_more}
use Rattle.text_streams.specs.Streams.{AppendsPrefix}
use Rattle.text_streams.specs.WrittenTexts.{LeavesAtFault, WritesWhole}
use Rattle.text_streams.specs.declared.faults.Fault.{Fault}
use Rattle.text_streams.specs.declared.faults.Fault.TheVariants.{OutOfMemory, Read, Write, NoThread, Missing}
use Rattle.request_serving.specs.Deciding.{IsDecidedLog}
use Rattle.request_serving.specs.Endings.{EndsWithNotes, IsLogged, Outputs, WritesFaultLine, fault_line}
use Rattle.request_serving.specs.Presentations.{log_refused_as, logged_as}
use Rattle.request_texts.specs.OpenedFiles.{HasKnown}
use Rattle.request_texts.proofs.KnownFacts.{known_reads}

-- the report of a file of which less may be known
pub logged_of_known : (options : LogOptions) (known remaining : Option (List ℕ)) → HasKnown known remaining → (text : List ℕ) (verdict : Answer) → IsLogged options remaining text verdict →
    IsLogged options known text verdict
logged_of_known options known remaining has text verdict = known_reads known remaining has (λ bytes. IsLogReport (logged_as options.form) (log_refused_as options.form) options bytes text verdict)

-- the decision on a file of which less may be known
pub log_decided_of_known : (effort : ℕ) (needs_end : Bool) (known remaining : Option (List ℕ)) → HasKnown known remaining → (text : List ℕ) (answer : Answer) → IsDecidedLog effort needs_end remaining text answer →
    IsDecidedLog effort needs_end known text answer
log_decided_of_known effort needs_end known remaining has text answer =
    known_reads known remaining has (λ bytes. IsLogDecisionText (record { effort = effort; needs_end = needs_end }) bytes text answer)

-- the check of evidence against a log, of which less may be known than their readers have
pub log_check_of_known : (log logs evidence pieces : Option (List ℕ)) → HasKnown log logs → HasKnown evidence pieces → (text : List ℕ) (answer : Answer) → IsLogCheckOfReaders logs pieces text answer →
    IsLogCheckOfReaders log evidence text answer
log_check_of_known log logs evidence pieces has also text answer check =
    known_reads log logs has (λ bytes. IsLogCheckOfReader evidence bytes text answer)
    (reads_more (λ bytes. known_reads evidence pieces also (λ input. IsLogCheck bytes input text answer)) logs check)

-- ---- what is written to the errors before and after

prefix_kept : (a b c : Option (List ℕ)) (text : List ℕ) → AppendsPrefix a b text → Keeps b c → AppendsPrefix a c text
prefix_kept a b c text appends kept = (appends.0, appends.1, Appends-kept a b c (take appends.0 text) appends.2 kept)

kept_Appends : (a b c : Option (List ℕ)) (text : List ℕ) → Keeps a b → Appends b c text → Appends a c text
kept_Appends None b c text kept appends = tt
kept_Appends (Some x) None c text kept appends = absurd kept
kept_Appends (Some x) (Some y) None text kept appends = absurd appends
kept_Appends (Some x) (Some y) (Some z) text kept appends = appends ∙ ap (λ l. l ++ text) kept

kept_AppendsPrefix : (a b c : Option (List ℕ)) (text : List ℕ) → Keeps a b → AppendsPrefix b c text → AppendsPrefix a c text
kept_AppendsPrefix a b c text kept appends = (appends.0, appends.1, kept_Appends a b c (take appends.0 text) kept appends.2)

kept_fault_line : (a b c : Option (List ℕ)) (fault : Fault) → Keeps a b → WritesFaultLine b c fault → WritesFaultLine a c fault
kept_fault_line a b c OutOfMemory kept appends = kept_AppendsPrefix a b c (fault_line (codes "OutOfMemory")) kept appends
kept_fault_line a b c Read kept appends = kept_AppendsPrefix a b c (fault_line (codes "Read")) kept appends
kept_fault_line a b c Write kept appends = kept_AppendsPrefix a b c (fault_line (codes "Write")) kept appends
kept_fault_line a b c NoThread kept appends = kept_AppendsPrefix a b c (fault_line (codes "NoThread")) kept appends
kept_fault_line a b c (Missing seed) kept appends = kept_AppendsPrefix a b c (fault_line (codes "Missing " ++ decimal seed)) kept appends

-- ---- how a text with notes ends

pub ends_noted : {X : Type 0} (is_text : List ℕ → X → Type 0) (status_by : X → ℕ) (mid : Option (List ℕ)) (o : Outputs) (outcome : Result X Fault) (status : ℕ)
    → IfOk outcome (WritesWhole is_text o.written_before o.written)
    → IfErr outcome (LeavesAtFault is_text o.written_before o.written)
    → IfOk outcome (λ _. (text : List ℕ) × AppendsPrefix o.errors_before mid text) → OnErr outcome (Keeps o.errors_before mid)
    → IfOk outcome (λ said. (status ≡ status_by said) × Keeps mid o.errors) → IfErr outcome (λ fault. WritesFaultLine mid o.errors fault × (status ≡ 4))
    → EndsWithNotes is_text status_by o status
ends_noted is_text status_by mid o (Ok said) status whole left told untold done faulty =
    inl (said, whole, (told.0, prefix_kept o.errors_before mid o.errors told.0 told.1 done.1), done.0)
ends_noted is_text status_by mid o (Err fault) status whole left told untold done faulty =
    inr (fault, left, (kept_fault_line o.errors_before mid o.errors fault untold faulty.0, faulty.1))
