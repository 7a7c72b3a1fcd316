use Rattle.text_streams.proofs.StreamFacts.{faults_as, writes_as}
use Rattle.request_texts.specs.OpenedFiles.{name_in, text_bytes}
use Rattle.request_serving.specs.Reducing.{IsReduced}
use Rattle.request_serving.proofs.AskedFacts.{kept_none, kept_some, reduction_asked, report_left, report_written}
use Rattle.request_serving.proofs.serving.reducing.reduce_named.Goals as goal

pub returns-in-Some-clause-whole : goal.returns-in-Some-clause-whole
returns-in-Some-clause-whole g c =
    let nth = c.args.request.now.nth in
    let remaining = text_bytes (name_in c.args.request.now.file) (g.R.Read.remaining c.args.reader.now) (g.O.Environment.bytes c.args.files.now) in
    let kept = kept_some nth remaining c.in_ok-text.field-0 c.in_ok-text.ensures.text c.in-Some.text c.as_slice.result.now c.in-Some.is c.as_slice.ensures.value in
    writes_as _ (IsReduced nth remaining) (λ text verdict is. reduction_asked nth remaining _ kept text verdict is.of_all) _ _ c.reduce_trace.result c.reduce_trace.ensures.reduction

pub returns-in-Some-clause-left : goal.returns-in-Some-clause-left
returns-in-Some-clause-left g c =
    let nth = c.args.request.now.nth in
    let remaining = text_bytes (name_in c.args.request.now.file) (g.R.Read.remaining c.args.reader.now) (g.O.Environment.bytes c.args.files.now) in
    let kept = kept_some nth remaining c.in_ok-text.field-0 c.in_ok-text.ensures.text c.in-Some.text c.as_slice.result.now c.in-Some.is c.as_slice.ensures.value in
    faults_as _ (IsReduced nth remaining) (λ text verdict is. reduction_asked nth remaining _ kept text verdict is.of_all) _ _ c.reduce_trace.result c.reduce_trace.ensures.left

pub returns-in_ok-report-in-None-clause-whole : goal.returns-in_ok-report-in-None-clause-whole
returns-in_ok-report-in-None-clause-whole g c =
    let nth = c.args.request.now.nth in
    let remaining = text_bytes (name_in c.args.request.now.file) (g.R.Read.remaining c.args.reader.now) (g.O.Environment.bytes c.args.files.now) in
    let is = reduction_asked nth remaining _ (kept_none nth remaining c.in_ok-text.field-0 c.in_ok-text.ensures.text c.in-None.is) _ _ c.in_ok-report-in-None.ensures.fewer in
    report_written (IsReduced nth remaining) _ _ _ _ is c.write_report.result c.write_report.ensures.whole

pub returns-in_ok-report-in-None-clause-left : goal.returns-in_ok-report-in-None-clause-left
returns-in_ok-report-in-None-clause-left g c =
    let nth = c.args.request.now.nth in
    let remaining = text_bytes (name_in c.args.request.now.file) (g.R.Read.remaining c.args.reader.now) (g.O.Environment.bytes c.args.files.now) in
    let is = reduction_asked nth remaining _ (kept_none nth remaining c.in_ok-text.field-0 c.in_ok-text.ensures.text c.in-None.is) _ _ c.in_ok-report-in-None.ensures.fewer in
    report_left (IsReduced nth remaining) _ _ _ _ is c.write_report.result c.write_report.ensures.fault
