use Rattle.std.proofs.Common.{◌∙◌, ◌++◌, ap, append_assoc, string_bytes}
use Rattle.log_reports.specs.LogTexts.{found_text, gaps_text}
use Rattle.log_reports.proofs.rendering.push_verdict.Goals as goal

pub returns : goal.returns
returns c =
    let gaps = gaps_text c.args.found.now in
    c.in_ok-push_gaps.ensures ∙ ap (λ xs. xs ++ gaps) c.in_ok-push_found.ensures ∙ append_assoc (string_bytes c.args.text.now) (found_text c.args.found.now.findings) gaps
