use Rattle.std.proofs.Common.{◌≡◌, ◌∙◌, refl, subst, sym}
use Rattle.std.specs.Prelude.{IfSome, None, Some, option_map}
use Rattle.command_line.specs.Requests.{files_of}
use Rattle.text_streams.specs.Streams.{LosesPrefix}
use Rattle.trace_judging.specs.Limits.{certificate_read_limit}
use Rattle.request_texts.specs.NthTraces.{IsKeptOfAsked, TakesTrace}
use Rattle.request_texts.specs.OpenedFiles.{HasKnown, opened_bytes, text_bytes}
use Rattle.request_texts.proofs.KnownFacts.{known_reads}
use Rattle.request_texts.proofs.PairFacts.{first_unread, second_known, taken, untouched}
use Rattle.request_serving.specs.Evidence.{IsReportAsAsked}
use Rattle.request_serving.proofs.AskedFacts.{always, evidence_reported, kept_none, kept_some, left_by, nothing_left, on_ok, report_left, report_written, takes_checked, unread_evidence}
use Rattle.request_serving.proofs.serving.checking.check_named.Goals as goal

-- ---- what is reported

pub returns-in-None-clause-report : goal.returns-in-None-clause-report
returns-in-None-clause-report g c =
    let request = c.args.request.now in
    let input = g.R.Read.remaining c.args.reader.now in
    let files = g.O.Environment.bytes c.args.files.now in
    let traces = text_bytes (files_of request.texts).0 input files in
    let reads = known_reads traces _ (c.in_ok-opened.ensures.first_known input) (λ i. IsKeptOfAsked request.nth i (option_map (λ text. text.items) c.in_ok-read_asked.field-0)) c.in_ok-read_asked.ensures.text in
    let opened = c.in_ok-opened.opened in
    let mid = c.read_asked.new.reader in
    let known = second_known request.texts opened.first opened.second c.in_ok-opened.ensures.which c.args.reader.now mid mid c.in_ok-read_asked.ensures.unread g.R.Read.remaining g.O.File.Read.remaining files c.in_ok-opened.ensures.second_known in
    let kept = kept_none request.nth traces c.in_ok-read_asked.field-0 reads c.in-None.is in
    let fewer = c.in_ok-report-in-None.ensures.fewer in
    let is = evidence_reported g.K.EvidenceKind.is_report g.K.EvidenceKind.refusing request input files None kept _ known _ _ (fewer.0, fewer.1 ∙ c.refusal-refusing.ensures) in
    report_written (IsReportAsAsked g.K.EvidenceKind.is_report g.K.EvidenceKind.refusing request input files) _ _ _ _ is c.write_report.result c.write_report.ensures.whole

pub returns-in-None-clause-fault : goal.returns-in-None-clause-fault
returns-in-None-clause-fault g c =
    let request = c.args.request.now in
    let input = g.R.Read.remaining c.args.reader.now in
    let files = g.O.Environment.bytes c.args.files.now in
    let traces = text_bytes (files_of request.texts).0 input files in
    let reads = known_reads traces _ (c.in_ok-opened.ensures.first_known input) (λ i. IsKeptOfAsked request.nth i (option_map (λ text. text.items) c.in_ok-read_asked.field-0)) c.in_ok-read_asked.ensures.text in
    let opened = c.in_ok-opened.opened in
    let mid = c.read_asked.new.reader in
    let known = second_known request.texts opened.first opened.second c.in_ok-opened.ensures.which c.args.reader.now mid mid c.in_ok-read_asked.ensures.unread g.R.Read.remaining g.O.File.Read.remaining files c.in_ok-opened.ensures.second_known in
    let kept = kept_none request.nth traces c.in_ok-read_asked.field-0 reads c.in-None.is in
    let fewer = c.in_ok-report-in-None.ensures.fewer in
    let is = evidence_reported g.K.EvidenceKind.is_report g.K.EvidenceKind.refusing request input files None kept _ known _ _ (fewer.0, fewer.1 ∙ c.refusal-refusing.ensures) in
    report_left (IsReportAsAsked g.K.EvidenceKind.is_report g.K.EvidenceKind.refusing request input files) _ _ _ _ is c.write_report.result c.write_report.ensures.fault

pub returns-in-None-second-clause-report : goal.returns-in-None-second-clause-report
returns-in-None-second-clause-report g c =
    let request = c.args.request.now in
    let input = g.R.Read.remaining c.args.reader.now in
    let files = g.O.Environment.bytes c.args.files.now in
    let traces = text_bytes (files_of request.texts).0 input files in
    let reads = known_reads traces _ (c.in_ok-opened.ensures.first_known input) (λ i. IsKeptOfAsked request.nth i (option_map (λ text. text.items) c.in_ok-read_asked.field-0)) c.in_ok-read_asked.ensures.text in
    let opened = c.in_ok-opened.opened in
    let mid = c.read_asked.new.reader in
    let known = second_known request.texts opened.first opened.second c.in_ok-opened.ensures.which c.args.reader.now mid mid c.in_ok-read_asked.ensures.unread g.R.Read.remaining g.O.File.Read.remaining files c.in_ok-opened.ensures.second_known in
    let kept = kept_some request.nth traces c.in_ok-read_asked.field-0 reads c.in-Some.input c.deref.result.now c.in-Some.is c.deref.ensures.value in
    let evidence = text_bytes (files_of request.texts).1 input files in
    let has = subst (λ s. HasKnown evidence (opened_bytes (option_map g.O.File.Read.remaining s) (g.R.Read.remaining mid))) c.in-None-second.is known in
    let is = evidence_reported g.K.EvidenceKind.is_report g.K.EvidenceKind.refusing request input files (Some c.deref.result.now) kept _ has _ _ c.in_ok-report-in-None-second.ensures.report in
    report_written (IsReportAsAsked g.K.EvidenceKind.is_report g.K.EvidenceKind.refusing request input files) _ _ _ _ is c.write_report-in-None-second.result c.write_report-in-None-second.ensures.whole

pub returns-in-None-second-clause-fault : goal.returns-in-None-second-clause-fault
returns-in-None-second-clause-fault g c =
    let request = c.args.request.now in
    let input = g.R.Read.remaining c.args.reader.now in
    let files = g.O.Environment.bytes c.args.files.now in
    let traces = text_bytes (files_of request.texts).0 input files in
    let reads = known_reads traces _ (c.in_ok-opened.ensures.first_known input) (λ i. IsKeptOfAsked request.nth i (option_map (λ text. text.items) c.in_ok-read_asked.field-0)) c.in_ok-read_asked.ensures.text in
    let opened = c.in_ok-opened.opened in
    let mid = c.read_asked.new.reader in
    let known = second_known request.texts opened.first opened.second c.in_ok-opened.ensures.which c.args.reader.now mid mid c.in_ok-read_asked.ensures.unread g.R.Read.remaining g.O.File.Read.remaining files c.in_ok-opened.ensures.second_known in
    let kept = kept_some request.nth traces c.in_ok-read_asked.field-0 reads c.in-Some.input c.deref.result.now c.in-Some.is c.deref.ensures.value in
    let evidence = text_bytes (files_of request.texts).1 input files in
    let has = subst (λ s. HasKnown evidence (opened_bytes (option_map g.O.File.Read.remaining s) (g.R.Read.remaining mid))) c.in-None-second.is known in
    let is = evidence_reported g.K.EvidenceKind.is_report g.K.EvidenceKind.refusing request input files (Some c.deref.result.now) kept _ has _ _ c.in_ok-report-in-None-second.ensures.report in
    report_left (IsReportAsAsked g.K.EvidenceKind.is_report g.K.EvidenceKind.refusing request input files) _ _ _ _ is c.write_report-in-None-second.result c.write_report-in-None-second.ensures.fault

pub returns-in_err-report-in-None-second-clause-fault : goal.returns-in_err-report-in-None-second-clause-fault
returns-in_err-report-in-None-second-clause-fault g c =
    let request = c.args.request.now in
    let input = g.R.Read.remaining c.args.reader.now in
    let files = g.O.Environment.bytes c.args.files.now in
    let is_text = IsReportAsAsked g.K.EvidenceKind.is_report g.K.EvidenceKind.refusing request input files in
    left_by is_text _ _ c.in_err-report-in-None-second.field-0.0 c.from_residual-in_err-report-in-None-second.result c.from_residual-in_err-report-in-None-second.ensures.1
    (nothing_left is_text _ c.in_err-report-in-None-second.field-0.0 c.in_err-report-in-None-second.ensures.fault)

pub returns-clause-report : goal.returns-clause-report
returns-clause-report g c =
    let request = c.args.request.now in
    let input = g.R.Read.remaining c.args.reader.now in
    let files = g.O.Environment.bytes c.args.files.now in
    let traces = text_bytes (files_of request.texts).0 input files in
    let reads = known_reads traces _ (c.in_ok-opened.ensures.first_known input) (λ i. IsKeptOfAsked request.nth i (option_map (λ text. text.items) c.in_ok-read_asked.field-0)) c.in_ok-read_asked.ensures.text in
    let opened = c.in_ok-opened.opened in
    let mid = c.read_asked.new.reader in
    let known = second_known request.texts opened.first opened.second c.in_ok-opened.ensures.which c.args.reader.now mid mid c.in_ok-read_asked.ensures.unread g.R.Read.remaining g.O.File.Read.remaining files c.in_ok-opened.ensures.second_known in
    let kept = kept_some request.nth traces c.in_ok-read_asked.field-0 reads c.in-Some.input c.deref-in-Some-second.result.now c.in-Some.is c.deref-in-Some-second.ensures.value in
    let evidence = text_bytes (files_of request.texts).1 input files in
    let has = subst (λ s. HasKnown evidence (opened_bytes (option_map g.O.File.Read.remaining s) (g.R.Read.remaining mid))) c.in-Some-second.is known in
    let is = evidence_reported g.K.EvidenceKind.is_report g.K.EvidenceKind.refusing request input files (Some c.deref-in-Some-second.result.now) kept _ has _ _ c.in_ok-report-in-Some-second.ensures.report in
    report_written (IsReportAsAsked g.K.EvidenceKind.is_report g.K.EvidenceKind.refusing request input files) _ _ _ _ is c.write_report-in-Some-second.result c.write_report-in-Some-second.ensures.whole

pub returns-clause-fault : goal.returns-clause-fault
returns-clause-fault g c =
    let request = c.args.request.now in
    let input = g.R.Read.remaining c.args.reader.now in
    let files = g.O.Environment.bytes c.args.files.now in
    let traces = text_bytes (files_of request.texts).0 input files in
    let reads = known_reads traces _ (c.in_ok-opened.ensures.first_known input) (λ i. IsKeptOfAsked request.nth i (option_map (λ text. text.items) c.in_ok-read_asked.field-0)) c.in_ok-read_asked.ensures.text in
    let opened = c.in_ok-opened.opened in
    let mid = c.read_asked.new.reader in
    let known = second_known request.texts opened.first opened.second c.in_ok-opened.ensures.which c.args.reader.now mid mid c.in_ok-read_asked.ensures.unread g.R.Read.remaining g.O.File.Read.remaining files c.in_ok-opened.ensures.second_known in
    let kept = kept_some request.nth traces c.in_ok-read_asked.field-0 reads c.in-Some.input c.deref-in-Some-second.result.now c.in-Some.is c.deref-in-Some-second.ensures.value in
    let evidence = text_bytes (files_of request.texts).1 input files in
    let has = subst (λ s. HasKnown evidence (opened_bytes (option_map g.O.File.Read.remaining s) (g.R.Read.remaining mid))) c.in-Some-second.is known in
    let is = evidence_reported g.K.EvidenceKind.is_report g.K.EvidenceKind.refusing request input files (Some c.deref-in-Some-second.result.now) kept _ has _ _ c.in_ok-report-in-Some-second.ensures.report in
    report_left (IsReportAsAsked g.K.EvidenceKind.is_report g.K.EvidenceKind.refusing request input files) _ _ _ _ is c.write_report-in-Some-second.result c.write_report-in-Some-second.ensures.fault

pub returns-in_err-report-in-Some-second-clause-fault : goal.returns-in_err-report-in-Some-second-clause-fault
returns-in_err-report-in-Some-second-clause-fault g c =
    let request = c.args.request.now in
    let input = g.R.Read.remaining c.args.reader.now in
    let files = g.O.Environment.bytes c.args.files.now in
    let is_text = IsReportAsAsked g.K.EvidenceKind.is_report g.K.EvidenceKind.refusing request input files in
    left_by is_text _ _ c.in_err-report-in-Some-second.field-0.0 c.from_residual-in_err-report-in-Some-second.result c.from_residual-in_err-report-in-Some-second.ensures.1
    (nothing_left is_text _ c.in_err-report-in-Some-second.field-0.0 c.in_err-report-in-Some-second.ensures.fault)

-- ---- what is read of standard input

pub returns-in_err-report-in-Some-second-clause-unread : goal.returns-in_err-report-in-Some-second-clause-unread
returns-in_err-report-in-Some-second-clause-unread g c =
    let opened = c.in_ok-opened.opened in
    let mid = c.read_asked.new.reader in
    untouched c.args.request.now.texts opened.first opened.second c.in_ok-opened.ensures.which c.args.reader.now mid mid c.in_ok-read_asked.ensures.unread (always (mid ≡ mid) opened.second refl)

pub returns-in_err-report-in-None-second-clause-unread_after_refusal : goal.returns-in_err-report-in-None-second-clause-unread_after_refusal
returns-in_err-report-in-None-second-clause-unread_after_refusal g c =
    let request = c.args.request.now in
    let input = g.R.Read.remaining c.args.reader.now in
    let files = g.O.Environment.bytes c.args.files.now in
    let traces = text_bytes (files_of request.texts).0 input files in
    let reads = known_reads traces _ (c.in_ok-opened.ensures.first_known input) (λ i. IsKeptOfAsked request.nth i (option_map (λ text. text.items) c.in_ok-read_asked.field-0)) c.in_ok-read_asked.ensures.text in
    let opened = c.in_ok-opened.opened in
    let kept = kept_some request.nth traces c.in_ok-read_asked.field-0 reads c.in-Some.input c.deref.result.now c.in-Some.is c.deref.ensures.value in
    let first = first_unread request.texts opened.first opened.second c.in_ok-opened.ensures.which c.args.reader.now c.read_asked.new.reader c.report_text.new.evidence c.in_ok-read_asked.ensures.unread in
    unread_evidence request.nth (files_of request.texts).0 (files_of request.texts).1 input files _ _ _ _ kept c.in_err-report-in-None-second.ensures.unread first

pub returns-in-None-second-clause-unread_after_refusal : goal.returns-in-None-second-clause-unread_after_refusal
returns-in-None-second-clause-unread_after_refusal g c =
    let request = c.args.request.now in
    let input = g.R.Read.remaining c.args.reader.now in
    let files = g.O.Environment.bytes c.args.files.now in
    let traces = text_bytes (files_of request.texts).0 input files in
    let reads = known_reads traces _ (c.in_ok-opened.ensures.first_known input) (λ i. IsKeptOfAsked request.nth i (option_map (λ text. text.items) c.in_ok-read_asked.field-0)) c.in_ok-read_asked.ensures.text in
    let opened = c.in_ok-opened.opened in
    let kept = kept_some request.nth traces c.in_ok-read_asked.field-0 reads c.in-Some.input c.deref.result.now c.in-Some.is c.deref.ensures.value in
    let first = first_unread request.texts opened.first opened.second c.in_ok-opened.ensures.which c.args.reader.now c.read_asked.new.reader c.report_text.new.evidence c.in_ok-read_asked.ensures.unread in
    unread_evidence request.nth (files_of request.texts).0 (files_of request.texts).1 input files _ _ _ _ kept c.in_ok-report-in-None-second.ensures.unread first

pub returns-in-None-second-clause-taken : goal.returns-in-None-second-clause-taken
returns-in-None-second-clause-taken g c = λ reads.
    let request = c.args.request.now in
    let opened = c.in_ok-opened.opened in
    let remaining = g.R.Read.remaining in
    let mid = c.read_asked.new.reader in
    let after = c.report_text.new.evidence in
    let later = subst (λ s. IfSome s (λ _. after ≡ mid)) (sym c.in-None-second.is) tt in
    on_ok _ c.write_report-in-None-second.result (takes_checked remaining request.nth (files_of request.texts).0 (files_of request.texts).1 c.args.reader.now after
    (taken request.texts opened.first opened.second c.in_ok-opened.ensures.which c.args.reader.now mid after c.in_ok-read_asked.ensures.unread
    (λ old new. TakesTrace request.nth (remaining old) (remaining new)) (λ old new. LosesPrefix certificate_read_limit (remaining old) (remaining new)) later c.in_ok-read_asked.ensures.taken
    c.in_ok-report-in-None-second.ensures.taken))
