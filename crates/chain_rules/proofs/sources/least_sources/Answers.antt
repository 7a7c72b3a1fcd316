use Rattle.std.proofs.Common.{◌*◌, ap, ◌∙◌, replicate, arith}
use Rattle.tso_ops.proofs.EventFacts.{event_total-most}
use Rattle.chain_rules.proofs.SourceFacts.{least_none}
use Rattle.chain_rules.proofs.sources.least_sources.Goals as goal

pub overflow_cast-nodes : goal.overflow_cast-nodes
overflow_cast-nodes c =
    let most = event_total-most c.args.trace.now c.node_count-nodes.ensures.kept in
    omega (arith, most, c.node_count-nodes.ensures.count)

pub loop-l-init : goal.loop-l-init
loop-l-init c =
    let n = c.node_count-nodes.result in
    least_none c.args.trace.now c.args.chains.now c.in_ok-least.least.items n c.node_count-nodes.ensures.count
    (c.in_ok-least.ensures.items_if_clones_equal (λ y e. e) ∙ ap (λ k. replicate (n * k) n) c.count.ensures)
