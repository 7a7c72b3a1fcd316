use Rattle.std.proofs.Common.{◌∙◌, ◌+◌, [], ap}
use Rattle.std.specs.Option.{option_map_or}
use Rattle.trace_explanation.specs.Names.{event_name}
use Rattle.trace_explanation.specs.Namings.{own_name}
use Rattle.trace_explanation.proofs.TextFacts.{names-more}
use Rattle.trace_explanation.proofs.namings.list_names.Goals as goal

pub loop-n-preserved : goal.loop-n-preserved
unfolding own_name
loop-n-preserved c are =
    let n = c.loop-n.n + 1 in
    names-more (own_name c.args.trace.now) c.loop-n.n _ _ _ c.in_ok-push.ensures.items (c.in_ok-event_name.ensures ∙ ap (λ o. option_map_or (event_name n) o []) (c.operation_of.ensures c.args.trace.now are)) (c.loop-n.invariant are)
