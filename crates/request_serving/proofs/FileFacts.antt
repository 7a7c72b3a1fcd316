-- What the arguments of a command that reads files lead to.
use Rattle.std.proofs.Common.{◌≡◌, ◌∙◌, ℕ, List, [], ◌∷◌, arith, codes, inl, inr, refl, subst, sym, Option, None, Some}
use Rattle.text_streams.specs.Readings.{ReadsAs}
use Rattle.text_streams.specs.declared.faults.Fault.TheVariants.{OutOfMemory, NoThread}
use Rattle.trace_reports.specs.declared.answers.Answer.{Answer}
use Rattle.trace_reports.specs.declared.answers.Answer.TheVariants.{Clear, Undecided, Refused, Violation, Unread}
use Rattle.trace_reports.specs.Statuses.{status_of_answer}
use Rattle.log_reports.specs.LogReports.{IsLogReport}
use Rattle.log_reports.specs.LogTexts.{log_lines}
use Rattle.trace_reports.specs.Reports.{rendered_refusal}
use Rattle.log_reports.proofs.ViolationFacts.{report_violation}
use Rattle.command_line.specs.declared.options.Presentation.TheVariants.{Report}
use Rattle.command_line.specs.FileArguments.{NameFile, NameFiles}
use Rattle.command_line.specs.Requests.{Asked, Text, checking, deciding, judging, logging}
use Rattle.command_line.specs.Spellings.{Asks}
use Rattle.command_line.proofs.FileSpellings.{asks_check, asks_decide, asks_decide_input, asks_judge, asks_judge_input, asks_log, asks_log_input, log_options}
use Rattle.request_texts.specs.OpenedFiles.{text_bytes}
use Rattle.request_serving.specs.Endings.{Does, EndsLogged, LeadTo, Outputs}
use Rattle.request_serving.specs.FileCommands.{EndsChecked, EndsDecided, EndsJudged, IsLogWithoutOrder}

memory_is_no_thread : OutOfMemory ≡ NoThread → ⊥
memory_is_no_thread same = cc

module _ (input : Option (List ℕ)) (files : List ℕ → Option (List ℕ)) (o : Outputs) (status : ℕ) where
  judged : (file : Option Text) → Does (judging Report file 1 None) input files o status → EndsJudged (text_bytes file input files) o status
  judged file (inl ends) = ends
  judged file (inr memory) = inr (OutOfMemory, memory.0, memory.1)

  decided : (file : Option Text) → Does (deciding Report file 1 None 100000) input files o status → EndsDecided (text_bytes file input files) o status
  decided file (inl ends) = ends
  decided file (inr memory) = inr (OutOfMemory, memory.0, memory.1)

  checked : (trace cert : Option Text) → Does (checking trace cert None) input files o status → EndsChecked (text_bytes trace input files) (text_bytes cert input files) o status
  checked trace cert (inl ends) = ends
  checked trace cert (inr memory) = inr (OutOfMemory, (memory_is_no_thread, memory.0), memory.1)

  -- a report with the status of a violation says so
  says_violation : (answer : Answer) → status_of_answer answer ≡ 3 → answer ≡ Violation
  says_violation Clear is = absurd (omega (arith, is))
  says_violation Undecided is = absurd (omega (arith, is))
  says_violation Refused is = absurd (omega (arith, is))
  says_violation Violation is = refl
  says_violation Unread is = absurd (omega (arith, is))

  has_no_order : (bytes : Option (List ℕ)) (text : List ℕ) → ReadsAs bytes (λ all. IsLogReport log_lines rendered_refusal log_options all text Violation) → IsLogWithoutOrder bytes
  has_no_order None text report = tt
  has_no_order (Some all) text report = report_violation log_lines rendered_refusal log_options all text report.of_all

  no_order : (bytes : Option (List ℕ)) → EndsLogged log_options bytes o status → status ≡ 3 → IsLogWithoutOrder bytes
  no_order bytes (inl (answer, writes, notes, gives)) three =
      has_no_order bytes writes.0 (subst (λ a. ReadsAs bytes (λ all. IsLogReport log_lines rendered_refusal log_options all writes.0 a)) (says_violation answer (sym gives ∙ three)) writes.1)
  no_order bytes (inr (fault, leaves, told)) three = absurd (omega (arith, told.1, three))

  logged : (file : Option Text) → Does (logging file log_options) input files o status → status ≡ 3 → IsLogWithoutOrder (text_bytes file input files)
  logged file (inl ends) three = no_order (text_bytes file input files) ends three
  logged file (inr memory) three = absurd (omega (arith, memory.1.1, three))

  -- ---- of all arguments

  module _ (arguments : List Text) (lead : LeadTo arguments input files o status) where
    asked_leads : (these : List Text) (asked : Asked) → arguments ≡ these → Asks these asked → Does asked input files o status
    asked_leads these asked same asks = lead.asked asked (subst (λ a. Asks a asked) (sym same) asks)

    pub file_judged : (file : Text) → NameFile (codes "judge") file arguments → EndsJudged (files file) o status
    file_judged file (same, plain) = judged (Some file) (asked_leads (codes "judge" ∷ file ∷ []) _ same (asks_judge file plain))

    pub input_judged : arguments ≡ codes "judge" ∷ [] → EndsJudged input o status
    input_judged same = judged None (asked_leads (codes "judge" ∷ []) _ same asks_judge_input)

    pub file_decided : (file : Text) → NameFile (codes "decide") file arguments → EndsDecided (files file) o status
    file_decided file (same, plain) = decided (Some file) (asked_leads (codes "decide" ∷ file ∷ []) _ same (asks_decide file plain))

    pub input_decided : arguments ≡ codes "decide" ∷ [] → EndsDecided input o status
    input_decided same = decided None (asked_leads (codes "decide" ∷ []) _ same asks_decide_input)

    pub files_checked : (trace cert : Text) → NameFiles (codes "check") trace cert arguments → EndsChecked (files trace) (files cert) o status
    files_checked trace cert (same, plain, also) = checked (Some trace) (Some cert) (asked_leads (codes "check" ∷ trace ∷ cert ∷ []) _ same (asks_check trace cert plain also))

    pub file_logged : (file : Text) → NameFile (codes "log") file arguments → status ≡ 3 → IsLogWithoutOrder (files file)
    file_logged file (same, plain) = logged (Some file) (asked_leads (codes "log" ∷ file ∷ []) _ same (asks_log file plain))

    pub input_logged : arguments ≡ codes "log" ∷ [] → status ≡ 3 → IsLogWithoutOrder input
    input_logged same = logged None (asked_leads (codes "log" ∷ []) _ same asks_log_input)
