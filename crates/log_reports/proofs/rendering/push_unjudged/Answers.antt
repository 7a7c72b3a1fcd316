use Rattle.std.proofs.Common.{◌∙◌, ◌++◌, ap, codes, string_bytes}
use Rattle.log_reports.proofs.TextFacts.{numbered_more}
use Rattle.log_reports.specs.Lines.{log_lines_text}
use Rattle.log_reports.proofs.rendering.push_unjudged.Goals as goal

pub loop-k-preserved : goal.loop-k-preserved
loop-k-preserved c = numbered_more (λ shown. log_lines_text c.args.tags.now shown.items) (codes "unjudged ") c.args.unjudged.now c.loop-k.k c.index-unjudged-k.result (string_bytes c.args.text.now) (string_bytes c.loop-k.text) (string_bytes c.write.new.self) (string_bytes c.push_lines.new.text) c.loop-k-test.true c.index-unjudged-k.is
    c.loop-k.invariant c.in_ok-write.ensures.bytes (c.in_ok-push_lines.ensures ∙ ap (λ xs. string_bytes c.write.new.self ++ log_lines_text c.args.tags.now xs) c.deref.ensures.value)
