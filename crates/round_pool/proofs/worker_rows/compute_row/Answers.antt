use Rattle.std.proofs.Common.{List, ℕ, get_or, subst, arith}
use Rattle.std.specs.Prelude.{Contains}
use Rattle.std.proofs.lemmas.List.Elements.{Contains-get_or}
use Rattle.order_graph.specs.Digraphs.{IsEdge}
use Rattle.tso_ops.proofs.EventFacts.{event_total-most}
use Rattle.tso_model.proofs.NewEdgeFacts.{new_within}
use Rattle.round_pool.proofs.worker_rows.compute_row.Goals as goal

pub narrowed-requires : goal.narrowed-requires
narrowed-requires c = λ k d low.
    let a = c.args in
    let v = get_or c.deref.result.now k d in
    let has = subst (λ (l : List ℕ). Contains l v) c.deref.ensures.value (Contains-get_or c.deref.result.now k d low) in
    let within = (new_within a.input.trace.now (IsEdge a.input.graph.now) a.number v (c.in_ok-row.ensures.only v has)).1 in
    let most = event_total-most a.input.trace.now c.events-events.ensures.kept in
    omega (arith, within, most)
