use Rattle.std.proofs.Common.{string_bytes}
use Rattle.log_reports.proofs.RefusalFacts.{log_explained}
use Rattle.log_reports.proofs.refusals.explain_log_refusal.Goals as goal

pub returns : goal.returns
returns c =
    log_explained (string_bytes c.args.text.now) (string_bytes c.explain_refusal.new.text) (string_bytes c.push_str.new.self) c.args.input.now c.log_sentence.result.now c.args.fault.line c.args.fault.why
    c.in_ok-explain_refusal.ensures c.in_ok-push_str.ensures.bytes c.log_sentence.ensures
