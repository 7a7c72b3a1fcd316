use Rattle.std.proofs.Common.{arith, string_bytes}
use Rattle.std.proofs.lemmas.Result.{IfOk-weaker}
use Rattle.log_evidence.proofs.ReaderFacts.{all_consumed, all_read, check_of_readers, on_ok, refused_by_read}
use Rattle.log_evidence.proofs.checking.report_readers.Goals as goal

pub returns-clause-report : goal.returns-clause-report
returns-clause-report g c =
    let small = c.in_ok-input.input.small in
    let all = all_read (g.L.Read.remaining c.args.logs.now) c.in_ok-input.input.items c.in_ok-input.ensures.prefix (omega (arith, small)) in
    IfOk-weaker c.report_log_evidence.result _ _
    (λ report is. check_of_readers (g.L.Read.remaining c.args.logs.now) (g.E.Read.remaining c.args.evidence.now) _ _ (string_bytes report.text) report.verdict all c.deref.ensures.value is)
    c.report_log_evidence.ensures.report

pub returns-clause-taken : goal.returns-clause-taken
returns-clause-taken g c =
    let small = c.in_ok-input.input.small in
    on_ok c.report_log_evidence.result (all_consumed (g.L.Read.remaining c.args.logs.now) _ _ (all_read (g.L.Read.remaining c.args.logs.now) c.in_ok-input.input.items c.in_ok-input.ensures.prefix (omega (arith, small))) c.in_ok-input.ensures.taken)

pub returns-clause-unread : goal.returns-clause-unread
returns-clause-unread g c =
    let small = c.in_ok-input.input.small in
    let all = all_read (g.L.Read.remaining c.args.logs.now) c.in_ok-input.input.items c.in_ok-input.ensures.prefix (omega (arith, small)) in
    refused_by_read (g.L.Read.remaining c.args.logs.now) _ c.deref.result.now all c.deref.ensures.value c.report_log_evidence.ensures.unread
