use Rattle.std.proofs.Common.{refl, arith}
use Rattle.std.proofs.lemmas.List.{take_at}
use Rattle.order_graph.proofs.KeptTablesFacts.{KeepsAllPaths-edge, KeepsAllPaths-join, KeepsAllPaths-transitive, sees_decided, sees_more, sees_nodes, sees_within}
use Rattle.order_graph.proofs.GrownFacts.{IsNodeRow-more, grown_same, grown_more}
use Rattle.order_graph.proofs.graphs.Graph.add.Goals as goal

pub invariant_of-self : goal.invariant_of-self
invariant_of-self c =
    let g = c.self.inside in
    let n = sees_nodes c.args.self.now g.tables.nodes g.tables.width g.tables.edges.items (record { grown = _; is = c.self.view_is }) in
    let adds = rw c.deref_mut.ensures.value at c.set_bit.ensures in
    let bit = c.has_path.ensures in (
      KeepsAllPaths-edge g.tables.nodes g.tables.width g.tables.edges.items c.set_bit.new.table _ g.tables.paths.items g.tables.transposed.items c.args.u c.args.v c.self.invariant.0
          (take_at _ _ _ (omega arith)) (omega arith) (omega arith) (omega arith) adds (bit.0 c.if-has_path.true),
      c.self.invariant.1,
    )

pub returns-then-has_path-clause-edges : goal.returns-then-has_path-clause-edges
returns-then-has_path-clause-edges c = λ x y.
    let g = c.self.inside in
    let n = sees_nodes c.args.self.now g.tables.nodes g.tables.width g.tables.edges.items (record { grown = _; is = c.self.view_is }) in
    let adds = rw c.deref_mut.ensures.value at c.set_bit.ensures in
    rw (take_at c.set_bit.new.table _ g.tables.edges.len (omega arith)) (sees_more c.args.self.now _ g.tables.nodes g.tables.width g.tables.edges.items c.set_bit.new.table c.args.u c.args.v
    (record { grown = _; is = c.self.view_is }) (record { grown = _; is = refl }) c.self.invariant.0.fits (omega arith) (omega arith) adds x y)

pub join-requires-clause-transitive : goal.join-requires-clause-transitive
join-requires-clause-transitive c =
    rw c.deref_mut-3.ensures.value (KeepsAllPaths-transitive c.self.inside.tables.nodes c.self.inside.tables.width _ c.self.inside.tables.paths.items c.self.inside.tables.transposed.items c.self.invariant.0)

pub invariant_of-self-2 : goal.invariant_of-self-2
invariant_of-self-2 c =
    let g = c.self.inside in
    let n = sees_nodes c.args.self.now g.tables.nodes g.tables.width g.tables.edges.items (record { grown = _; is = c.self.view_is }) in
    let adds = rw c.deref_mut.ensures.value at c.set_bit.ensures in
    let joins = rw c.deref_mut-3.ensures.value at c.join.ensures.added in
    let marks = rw (c.deref.ensures.value, c.deref_mut-2.ensures.value) at c.mark_grown.ensures in (
      KeepsAllPaths-join g.tables.nodes g.tables.width g.tables.edges.items c.set_bit.new.table _ g.tables.paths.items c.join.new.table _ g.tables.transposed.items c.join.new.transposed _ c.args.u c.args.v c.self.invariant.0
          (take_at _ _ _ (omega arith)) (take_at _ _ _ (omega arith)) (take_at _ _ _ (omega arith)) (omega arith) (omega arith) (omega arith) adds joins c.join.ensures.transposed,
      IsNodeRow-more g.tables.nodes g.tables.width g.tables.edges.items g.tables.paths.items g.tables.transposed.items g.grown.items c.mark_grown.new.grown _ c.args.u c.args.v c.self.invariant.0 c.self.invariant.1
          (omega arith) (take_at _ _ _ (omega arith)) (omega arith) marks,
    )

pub returns-clause-edges : goal.returns-clause-edges
returns-clause-edges c = λ x y.
    let g = c.self.inside in
    let n = sees_nodes c.args.self.now g.tables.nodes g.tables.width g.tables.edges.items (record { grown = _; is = c.self.view_is }) in
    let adds = rw c.deref_mut.ensures.value at c.set_bit.ensures in
    rw (take_at c.set_bit.new.table _ g.tables.edges.len (omega arith)) (sees_more c.args.self.now _ g.tables.nodes g.tables.width g.tables.edges.items c.set_bit.new.table c.args.u c.args.v
    (record { grown = _; is = c.self.view_is }) (record { grown = _; is = refl }) c.self.invariant.0.fits (omega arith) (omega arith) adds x y)

pub returns-then-has_path-clause-within : goal.returns-then-has_path-clause-within
returns-then-has_path-clause-within c = sees_within _ c.self.inside.tables.nodes c.self.inside.tables.width _ (record { grown = _; is = refl })

pub returns-then-has_path-clause-decided : goal.returns-then-has_path-clause-decided
returns-then-has_path-clause-decided c = λ x y. sees_decided _ c.self.inside.tables.nodes c.self.inside.tables.width _ (record { grown = _; is = refl }) x y

pub returns-clause-within : goal.returns-clause-within
returns-clause-within c = sees_within _ c.self.inside.tables.nodes c.self.inside.tables.width _ (record { grown = _; is = refl })

pub returns-clause-decided : goal.returns-clause-decided
returns-clause-decided c = λ x y. sees_decided _ c.self.inside.tables.nodes c.self.inside.tables.width _ (record { grown = _; is = refl }) x y

pub returns-then-has_path-clause-grown : goal.returns-then-has_path-clause-grown
returns-then-has_path-clause-grown c = λ x.
    let g = c.self.inside in
    let n = sees_nodes c.args.self.now g.tables.nodes g.tables.width g.tables.edges.items (record { grown = _; is = c.self.view_is }) in
    let adds = rw c.deref_mut.ensures.value at c.set_bit.ensures in
    let bit = c.has_path.ensures in
    rw (take_at c.set_bit.new.table _ g.tables.edges.len (omega arith)) (grown_same c.args.self.now _ g.tables.nodes g.tables.width g.tables.edges.items c.set_bit.new.table
    g.tables.paths.items g.tables.transposed.items g.grown.items c.args.u c.args.v c.self.invariant.0 (omega arith) (omega arith) c.self.view_is refl adds (bit.0 c.if-has_path.true) x)

pub returns-clause-grown : goal.returns-clause-grown
returns-clause-grown c = λ x.
    let g = c.self.inside in
    let n = sees_nodes c.args.self.now g.tables.nodes g.tables.width g.tables.edges.items (record { grown = _; is = c.self.view_is }) in
    let adds = rw c.deref_mut.ensures.value at c.set_bit.ensures in
    let marks = rw (c.deref.ensures.value, c.deref_mut-2.ensures.value) at c.mark_grown.ensures in
    rw (take_at c.set_bit.new.table _ g.tables.edges.len (omega arith), take_at c.mark_grown.new.grown _ g.grown.len (omega arith)) (grown_more c.args.self.now _ g.tables.nodes g.tables.width
    g.tables.edges.items c.set_bit.new.table g.tables.paths.items g.tables.transposed.items g.grown.items c.mark_grown.new.grown c.args.u c.args.v c.self.invariant.0 (omega arith) (omega arith)
    c.self.view_is refl adds marks x)
