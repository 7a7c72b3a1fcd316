use Rattle.order_graph.specs.Digraphs.{IsEdge}
use Rattle.order_paths.proofs.Reach.{HasCycle-mono}
use Rattle.round_pool.specs.Rankings.{rounds_of}
use Rattle.tso_model.specs.Ranks.{RankSet}
use Rattle.tso_model.proofs.RoundsNumber.{rounds_tell_cycles}
use Rattle.trace_judging.proofs.violations.try_bit_rows.Goals as goal

pub returns-in-Ok-clause-cycle : goal.returns-in-Ok-clause-cycle
returns-in-Ok-clause-cycle g c =
    let t = c.args.trace.now in
    let ranking = c.in-Ok.ensures in
    let k = rounds_of c.in-Ok.ranked in
    let edges = ranking.last.edges in
    let tells = rounds_tell_cycles t k c.requires.written ranking.rounds in
    let cycle = rw c.last.ensures at c.has_cycle.ensures in (
      λ is. tells.1 (HasCycle-mono (IsEdge c.in-Ok.ranked.last) (RankSet t k) (λ x y. (edges x y).0) (cycle.0 is)),
      λ derived. cycle.1 (HasCycle-mono (RankSet t k) (IsEdge c.in-Ok.ranked.last) (λ x y. (edges x y).1) (tells.0 derived)),
    )
