use Rattle.std.proofs.Common.{ℕ, List, sym, subst, arith}
use Rattle.std.specs.Global.{Vec}
use Rattle.std.proofs.lemmas.List.{length-map}
use Rattle.round_pool.specs.Internal.WorkerRows.{AreRowsOf}
use Rattle.tso_ops.specs.Values.{rows}
use Rattle.tso_ops.proofs.EventFacts.{event_total-most}
use Rattle.round_pool.proofs.EdgeFacts.{workset_edges, rows_ascend, numbers_below}
use Rattle.round_pool.proofs.edges.round_edges.Goals as goal

pub edges_of-requires-clause-count : goal.edges_of-requires-clause-count
edges_of-requires-clause-count g c =
    let made = subst (λ (l : List (Vec ℕ)). AreRowsOf c.args.input.trace.now c.args.input.graph.now c.args.numbers.now (rows l)) (sym c.deref.ensures.value) c.in_ok-made.ensures in
    let size = length-map c.deref.result.now (λ (v : Vec ℕ). v.items) in
    let count = made.count_is in
    omega (arith, count, size)

pub edges_of-requires-clause-below : goal.edges_of-requires-clause-below
edges_of-requires-clause-below g c =
    let bound = event_total-most c.args.input.trace.now c.events-events.ensures.kept in
    numbers_below c.args.input.trace.now c.args.input.graph.now c.args.numbers.now 65536 c.requires.workset (omega (arith, bound))

pub edges_of-requires-clause-rows : goal.edges_of-requires-clause-rows
edges_of-requires-clause-rows g c =
    let made = subst (λ (l : List (Vec ℕ)). AreRowsOf c.args.input.trace.now c.args.input.graph.now c.args.numbers.now (rows l)) (sym c.deref.ensures.value) c.in_ok-made.ensures in
    let bound = event_total-most c.args.input.trace.now c.events-events.ensures.kept in
    rows_ascend c.args.input.trace.now c.args.input.graph.now c.args.numbers.now (rows c.deref.result.now) 65536 made (omega (arith, bound))

pub returns : goal.returns
returns g c =
    let made = subst (λ (l : List (Vec ℕ)). AreRowsOf c.args.input.trace.now c.args.input.graph.now c.args.numbers.now (rows l)) (sym c.deref.ensures.value) c.in_ok-made.ensures in
    workset_edges c.args.input.trace.now c.args.input.graph.now c.args.numbers.now (rows c.deref.result.now) _ c.requires.workset made c.in_ok-edges.ensures
