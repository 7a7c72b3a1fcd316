use Rattle.std.proofs.Common.{◌∙◌, ◌++◌, ap, append_assoc, string_bytes}
use Rattle.log_reports.specs.LogTexts.{unknown_text, unsearched_text}
use Rattle.log_reports.proofs.rendering.push_gaps.Goals as goal

pub returns : goal.returns
returns c =
    let unknown = unknown_text c.args.found.now.options.max_unknown c.args.found.now.counts in
    c.in_ok-push_unknown.ensures ∙ ap (λ xs. xs ++ unknown) c.in_ok-push_unsearched.ensures ∙ append_assoc (string_bytes c.args.text.now) (unsearched_text c.args.found.now.findings) unknown
