use Rattle.std.proofs.Common.{◌∙◌, ◌++◌, ap, append_assoc, codes, string_bytes, sym}
use Rattle.std.specs.Fmt.{decimal}
use Rattle.log_reports.specs.LogTexts.{words_if}
use Rattle.log_reports.proofs.rendering.push_count.Goals as goal

pub returns : goal.returns
returns c =
    let old = string_bytes c.args.text.now in
    let count = decimal c.args.count in
    c.in_ok-write.ensures.bytes ∙ ap (λ more. old ++ (codes "violations " ++ (count ++ (more ++ codes "\n")))) c.more_words-more.ensures
    ∙ ap (λ xs. old ++ (codes "violations " ++ xs)) (sym (append_assoc count (words_if c.args.has_more (codes " of more")) (codes "\n")))
