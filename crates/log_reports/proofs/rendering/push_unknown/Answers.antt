use Rattle.std.proofs.Common.{◌∙◌, ◌++◌, ap, append_assoc, codes, string_bytes}
use Rattle.log_reports.specs.LogCounts.{is_nothing_judged, is_too_unknown}
use Rattle.log_reports.specs.LogTexts.{words_if}
use Rattle.log_reports.proofs.rendering.push_unknown.Goals as goal

pub returns : goal.returns
returns c =
    let old = string_bytes c.args.text.now in
    let first = words_if (is_nothing_judged c.args.counts) (codes "NOTHING JUDGED\n") in
    let second = words_if (is_too_unknown c.args.percent c.args.counts) (codes "TOO MANY UNKNOWN\n") in
    c.in_ok-push_if-2.ensures ∙ ap (λ is. string_bytes c.push_if.new.text ++ words_if is (codes "TOO MANY UNKNOWN\n")) c.in_ok-is_too_unknown.ensures
    ∙ ap (λ xs. xs ++ second) (c.in_ok-push_if.ensures ∙ ap (λ is. old ++ words_if is (codes "NOTHING JUDGED\n")) c.is_nothing_judged.ensures) ∙ append_assoc old first second
