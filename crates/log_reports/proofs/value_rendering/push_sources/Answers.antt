use Rattle.std.proofs.Common.{◌≡◌, ◌++◌, ◌∙◌, OnOk, ap, string_bytes, subst}
use Rattle.trace_explanation.proofs.TextFacts.{grown, grown-last}
use Rattle.log_reports.specs.Lines.{log_line_text, log_lines_text}
use Rattle.log_reports.specs.ValueTexts.{eliminated_text, source_found_text}
use Rattle.log_reports.proofs.value_rendering.push_sources.Goals as goal

pub returns : goal.returns
returns c =
    let sources = c.args.sources.now in
    let tags = c.args.tags.now in
    let old = string_bytes c.args.text.now in
    let load = log_line_text tags sources.load in
    let first = string_bytes c.push_line.new.text in
    let second = string_bytes c.push_eliminated.new.text in
    let third = string_bytes c.push_source.new.text in
    let fourth = string_bytes c.push_lines.new.text in
    let two = grown old load (eliminated_text sources) first second c.in_ok-push_line.ensures c.in_ok-push_eliminated.ensures in
    let three = grown old (load ++ eliminated_text sources) (source_found_text tags sources.source) second third two c.in_ok-push_source.ensures in
    let before = c.in_ok-push_lines.ensures ∙ ap (λ xs. third ++ log_lines_text tags xs) c.deref.ensures.value in
    let four = grown old (load ++ eliminated_text sources ++ source_found_text tags sources.source) (log_lines_text tags sources.before.items) third fourth three before in
    let after = subst (λ xs. OnOk c.push_lines-2.result (string_bytes c.push_lines-2.new.text ≡ fourth ++ log_lines_text tags xs)) c.deref-2.ensures.value c.push_lines-2.ensures in
    grown-last c.push_lines-2.result old (load ++ eliminated_text sources ++ source_found_text tags sources.source ++ log_lines_text tags sources.before.items)
    (log_lines_text tags sources.after.items) fourth (string_bytes c.push_lines-2.new.text) four after
