use Rattle.std.proofs.Common.{◌∙◌, ap}
use Rattle.std.specs.Option.{option_map_or}
use Rattle.trace_explanation.specs.Namings.{line_at}
use Rattle.trace_explanation.proofs.TextFacts.{items-more}
use Rattle.trace_explanation.proofs.namings.list_lines.Goals as goal

pub loop-n-preserved : goal.loop-n-preserved
loop-n-preserved c are =
    items-more (line_at c.args.trace.now) c.loop-n.n _ _ _ c.in_ok-push.ensures.items (c.line_of.ensures ∙ ap (λ o. option_map_or (λ p. p.line) o 0) (c.operation_of.ensures c.args.trace.now are)) (c.loop-n.invariant are)
