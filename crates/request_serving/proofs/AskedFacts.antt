-- Lemmas on reports of the trace that was asked for, and on what is written of them.
use Rattle.std.proofs.Common.{◌≡◌, ◌∙◌, ◌⊎◌, ℕ, List, None, Some, Ok, Err, Result, IfOk, IfErr, IfSome, ap, inl, inr, refl, sym, subst}
use Rattle.std.specs.Global.{Vec}
use Rattle.std.specs.Prelude.{IsErrAnd, MatchOption, OnOk, Option, option_map}
use Rattle.std.specs.Io.KnownBytes.{Appends, Keeps}
use Rattle.command_line.specs.Requests.{checking, files_of, verifying}
use Rattle.command_line.specs.declared.requests.CheckRequest.{CheckRequest}
use Rattle.command_line.specs.declared.options.Presentation.{Presentation}
use Rattle.command_line.specs.declared.options.Presentation.TheVariants.{Report, Explanation, Picture, FieldPicture}
use Rattle.text_streams.specs.declared.faults.Fault.{Fault}
use Rattle.text_streams.specs.declared.faults.Fault.TheVariants.{OutOfMemory, Read, Write}
use Rattle.text_streams.specs.Readings.{ReadsAs}
use Rattle.text_streams.specs.Streams.{AppendsPrefix, LosesPrefix}
use Rattle.text_streams.specs.WrittenTexts.{LeavesAtFault, WritesWhole}
use Rattle.text_streams.proofs.ReadingFacts.{reads_more}
use Rattle.text_streams.proofs.StreamFacts.{leaves_prefix}
use Rattle.trace_explanation.specs.Explained.{whole_explained}
use Rattle.trace_reports.specs.declared.answers.Answer.{Answer}
use Rattle.trace_reports.specs.declared.answers.Answer.TheVariants.{Refused as NoneAnswered}
use Rattle.trace_reports.specs.declared.verdicts.Verdict.{Verdict}
use Rattle.trace_reports.specs.declared.verdicts.Verdict.TheVariants.{Refused}
use Rattle.trace_reports.specs.Renderings.{IsTextOfInput, IsTextOfTrace}
use Rattle.trace_decisions.specs.DecisionTexts.{IsDecisionOf, IsDecisionText}
use Rattle.trace_judging.specs.Evidence.{IsReportOfEvidence, IsReportOfTexts, ReportsEvidence}
use Rattle.trace_judging.specs.Limits.{certificate_read_limit}
use Rattle.trace_judging.proofs.EvidenceFacts.{evidence_of_prefix}
use Rattle.trace_judging.proofs.ReaderFacts.{ShowsNoWhole, text_of_prefix}
use Rattle.trace_reduction.specs.Reductions.{IsReductionOf}
use Rattle.trace_reduction.proofs.ReductionFacts.{reduction_of_prefix}
use Rattle.tso_text.specs.Refusals.{IsRefusedTrace}
use Rattle.request_texts.specs.NthTraces.{IsKeptOfAsked, IsRefusedNth, IsWrittenOf, TakesTrace}
use Rattle.request_texts.specs.OpenedFiles.{HasKnown, HasRefusedFirstText, TakesInput, text_bytes}
use Rattle.request_texts.proofs.KnownFacts.{known_reads, written_as_well}
use Rattle.request_texts.proofs.NthFacts.{said_of_asked, unless_refused}
use Rattle.request_texts.proofs.PairFacts.{at_known}
use Rattle.request_serving.specs.Deciding.{IsDecided}
use Rattle.request_serving.specs.Endings.{IsVerdictAsAsked}
use Rattle.request_serving.specs.Evidence.{IsReportAsAsked, IsReportOfNth}
use Rattle.request_serving.specs.Presentations.{decided_as, refused_as, rendered_as}
use Rattle.request_serving.specs.Reducing.{IsReduced}

-- ---- what is said of what was kept is said of the trace that was asked for

shows_no_whole : (presentation : Presentation) → ShowsNoWhole (refused_as presentation)
shows_no_whole Report = λ a b why. refl
shows_no_whole Explanation = whole_explained
shows_no_whole Picture = λ a b why. refl
shows_no_whole FieldPicture = λ a b why. refl

module _ (nth : Option ℕ) (remaining kept : Option (List ℕ)) (reads : ReadsAs remaining (λ input. IsKeptOfAsked nth input kept)) (text : List ℕ) where
  pub verdict_asked : (presentation : Presentation) (verdict : Verdict) → IsWrittenOf Refused (IsTextOfInput (rendered_as presentation) (refused_as presentation)) kept text verdict →
      IsVerdictAsAsked presentation nth remaining text verdict
  verdict_asked presentation verdict =
      let whole = text_of_prefix (IsTextOfTrace (rendered_as presentation)) Refused (refused_as presentation) (shows_no_whole presentation) in
      said_of_asked Refused (IsTextOfInput (rendered_as presentation) (refused_as presentation)) whole text verdict nth remaining kept reads

  pub decision_asked : (presentation : Presentation) (effort : ℕ) (answer : Answer) → IsWrittenOf NoneAnswered (IsDecisionOf (decided_as presentation) (refused_as presentation) effort) kept text answer →
      IsDecided presentation effort nth remaining text answer
  decision_asked presentation effort answer =
      let whole = text_of_prefix (IsDecisionText (decided_as presentation) effort) NoneAnswered (refused_as presentation) (shows_no_whole presentation) in
      said_of_asked NoneAnswered (IsDecisionOf (decided_as presentation) (refused_as presentation) effort) whole text answer nth remaining kept reads

  pub reduction_asked : (verdict : Verdict) → IsWrittenOf Refused IsReductionOf kept text verdict → IsReduced nth remaining text verdict
  reduction_asked verdict = said_of_asked Refused IsReductionOf reduction_of_prefix text verdict nth remaining kept reads

  evidence_asked : {V : Type 0} (is_report : ReportsEvidence V) (refusing : V) (evidence : Option (List ℕ)) (verdict : V) → IsWrittenOf refusing (IsReportOfEvidence is_report refusing evidence) kept text verdict →
      IsReportOfNth is_report refusing nth remaining evidence text verdict
  evidence_asked is_report refusing evidence verdict =
      said_of_asked refusing (IsReportOfEvidence is_report refusing evidence) (evidence_of_prefix is_report refusing evidence) text verdict nth remaining kept reads

-- ---- what was kept, as it was read

module _ (nth : Option ℕ) (remaining : Option (List ℕ)) (found : Option (Vec ℕ)) (reads : ReadsAs remaining (λ input. IsKeptOfAsked nth input (option_map (λ text. text.items) found))) where
  pub kept_some : (text : Vec ℕ) (bytes : List ℕ) → found ≡ Some text → bytes ≡ text.items → ReadsAs remaining (λ input. IsKeptOfAsked nth input (Some bytes))
  kept_some text bytes is same =
      subst (λ kept. ReadsAs remaining (λ input. IsKeptOfAsked nth input (Some kept))) (sym same)
      (subst (λ (f : Option (Vec ℕ)). ReadsAs remaining (λ input. IsKeptOfAsked nth input (option_map (λ text. text.items) f))) is reads)

  pub kept_none : found ≡ None → ReadsAs remaining (λ input. IsKeptOfAsked nth input None)
  kept_none is = subst (λ (f : Option (Vec ℕ)). ReadsAs remaining (λ input. IsKeptOfAsked nth input (option_map (λ text. text.items) f))) is reads

-- what is reported of the text that was read
pub said_of_text : {R V E : Type 0} (refusing : V) (Is : List ℕ → List ℕ → V → Type 0) (text_of : R → List ℕ) (said_by : R → V) (asked : Option (Vec ℕ)) (text : Vec ℕ) (bytes : List ℕ) → asked ≡ Some text →
    bytes ≡ text.items → (outcome : Result R E) → IfOk outcome (λ r. Is bytes (text_of r) (said_by r)) →
    IfOk outcome (λ r. IsWrittenOf refusing Is (option_map (λ text. text.items) asked) (text_of r) (said_by r))
said_of_text refusing Is text_of said_by asked text bytes is same outcome holds =
    subst (λ (a : Option (Vec ℕ)). IfOk outcome (λ r. IsWrittenOf refusing Is (option_map (λ text. text.items) a) (text_of r) (said_by r))) (sym is)
    (subst (λ (b : List ℕ). IfOk outcome (λ r. Is b (text_of r) (said_by r))) same holds)

-- ---- evidence

-- what is reported of evidence of which less may be known
evidence_of_known : {V : Type 0} (is_report : ReportsEvidence V) (refusing : V) (nth : Option ℕ) (traces known remaining : Option (List ℕ)) → HasKnown known remaining → (text : List ℕ) (verdict : V) →
    IsReportOfNth is_report refusing nth traces remaining text verdict → IsReportOfNth is_report refusing nth traces known text verdict
evidence_of_known {V} is_report refusing nth traces known remaining has text verdict =
    let implied : (trace text : List ℕ) (verdict : V) → IsReportOfEvidence is_report refusing remaining trace text verdict → IsReportOfEvidence is_report refusing known trace text verdict =
    λ trace text verdict. known_reads known remaining has (λ input. IsReportOfTexts is_report refusing trace input text verdict) in
    reads_more (λ input. written_as_well refusing (IsReportOfEvidence is_report refusing remaining) (IsReportOfEvidence is_report refusing known) implied nth input text verdict) traces

module _ {V : Type 0} (is_report : ReportsEvidence V) (refusing : V) (request : CheckRequest) (input : Option (List ℕ)) (files : List ℕ → Option (List ℕ)) where
  pub evidence_reported : (kept : Option (List ℕ)) → ReadsAs (text_bytes (files_of request.texts).0 input files) (λ i. IsKeptOfAsked request.nth i kept) → (remaining : Option (List ℕ)) →
      HasKnown (text_bytes (files_of request.texts).1 input files) remaining → (text : List ℕ) (verdict : V) → IsWrittenOf refusing (IsReportOfEvidence is_report refusing remaining) kept text verdict →
      IsReportAsAsked is_report refusing request input files text verdict
  evidence_reported kept reads remaining has text verdict is =
      let traces = text_bytes (files_of request.texts).0 input files in
      evidence_of_known is_report refusing request.nth traces (text_bytes (files_of request.texts).1 input files) remaining has text verdict
      (evidence_asked request.nth traces kept reads text is_report refusing remaining verdict is)

-- the evidence isn't read where the trace is refused, and then standard input is untouched where the trace is in a file
pub unread_evidence : {V : Type 0} (nth : Option ℕ) (trace evidence input : Option (List ℕ)) (files : List ℕ → Option (List ℕ)) (before mid after : V) (kept : Option (List ℕ)) →
    ReadsAs (text_bytes trace input files) (λ i. IsKeptOfAsked nth i kept) → (IfSome kept IsRefusedTrace → after ≡ mid) → IfSome trace (λ _. mid ≡ before) →
    HasRefusedFirstText (checking trace evidence nth) files → after ≡ before
unread_evidence nth None evidence input files before mid after kept reads unread first refused = absurd refused
unread_evidence nth (Some name) evidence input files before mid after kept reads unread first refused =
    at_known (files name) (IsRefusedNth nth) (after ≡ mid) (unless_refused nth (files name) kept reads unread) refused ∙ first

-- what a check takes of standard input
pub takes_checked : {V : Type 0} (remaining : V → Option (List ℕ)) (nth : Option ℕ) (trace evidence : Option (List ℕ)) (before after : V) →
    MatchOption trace (TakesTrace nth (remaining before) (remaining after)) (λ _. (after ≡ before) ⊎ LosesPrefix certificate_read_limit (remaining before) (remaining after)) →
    TakesInput (checking trace evidence nth) (remaining before) (remaining after)
takes_checked remaining nth None evidence before after takes = takes
takes_checked remaining nth (Some name) evidence before after (inl same) = inl (ap remaining same)
takes_checked remaining nth (Some name) evidence before after (inr takes) = inr takes

-- `verify` takes and refuses what `check` does
pub takes_verified : (nth : Option ℕ) (trace evidence old new : Option (List ℕ)) → TakesInput (checking trace evidence nth) old new → TakesInput (verifying trace evidence nth) old new
takes_verified nth None evidence old new takes = takes
takes_verified nth (Some name) evidence old new takes = takes

pub refused_verified : (nth : Option ℕ) (trace evidence : Option (List ℕ)) (files : List ℕ → Option (List ℕ)) → HasRefusedFirstText (verifying trace evidence nth) files → HasRefusedFirstText (checking trace evidence nth) files
refused_verified nth None evidence files refused = refused
refused_verified nth (Some name) evidence files refused = refused

-- ---- reports of a kind that were written

pub report_written : {V : Type 0} (is_text : List ℕ → V → Type 0) (old new : Option (List ℕ)) (text : List ℕ) (verdict : V) → is_text text verdict → (outcome : Result V Fault) →
    IfOk outcome (λ said. (said ≡ verdict) × Appends old new text) → IfOk outcome (WritesWhole is_text old new)
report_written is_text old new text verdict is (Ok said) wrote = (text, subst (is_text text) (sym wrote.0) is, wrote.1)
report_written is_text old new text verdict is (Err fault) wrote = tt

pub report_left : {V : Type 0} (is_text : List ℕ → V → Type 0) (old new : Option (List ℕ)) (text : List ℕ) (verdict : V) → is_text text verdict → (outcome : Result V Fault) →
    IfErr outcome (λ fault. (fault ≡ Write) × AppendsPrefix old new text) → IfErr outcome (LeavesAtFault is_text old new)
report_left is_text old new text verdict is (Ok said) left = tt
report_left is_text old new text verdict is (Err fault) left = leaves_prefix is_text old new text text verdict fault is refl left.1 left.0

-- a fault before anything is written
keeps_itself : (old : Option (List ℕ)) → Keeps old old
keeps_itself None = tt
keeps_itself (Some all) = refl

pub nothing_left : {V : Type 0} (is_text : List ℕ → V → Type 0) (old : Option (List ℕ)) (fault : Fault) → (fault ≡ OutOfMemory) ⊎ (fault ≡ Read) → LeavesAtFault is_text old old fault
nothing_left is_text old fault (inl is) = subst (LeavesAtFault is_text old old) (sym is) (keeps_itself old)
nothing_left is_text old fault (inr is) = subst (LeavesAtFault is_text old old) (sym is) (keeps_itself old)

-- what a fault leaves that is passed on
pub left_by : {V : Type 0} (is_text : List ℕ → V → Type 0) (old new : Option (List ℕ)) (fault : Fault) (outcome : Result V Fault) → IsErrAnd outcome (λ passed. passed ≡ fault) → LeavesAtFault is_text old new fault →
    IfErr outcome (LeavesAtFault is_text old new)
left_by is_text old new fault (Ok said) passed leaves = tt
left_by is_text old new fault (Err e) passed leaves = subst (LeavesAtFault is_text old new) (sym passed) leaves

pub on_ok : {X E : Type 0} (P : Type 0) (outcome : Result X E) → P → OnOk outcome P
on_ok P (Ok said) holds = holds
on_ok P (Err fault) holds = tt

pub always : {X : Type 0} (P : Type 0) (o : Option X) → P → IfSome o (λ _. P)
always P None holds = tt
always P (Some x) holds = holds
