use Rattle.std.proofs.Common.{◌≡◌, ◌↔◌, ℕ, length, replicate, ap, subst, ◌∙◌, arith}
use Rattle.std.proofs.lemmas.List.{length-replicate}
use Rattle.bitsets.specs.Tables.{IsSet}
use Rattle.order_graph.specs.Internal.Tables.{Joined}
use Rattle.order_graph.specs.Digraphs.{IsEdge}
use Rattle.bitsets.proofs.TableFacts.{no_bit}
use Rattle.order_graph.proofs.KeptTablesFacts.{sees_edge}
use Rattle.order_graph.proofs.CyclesFacts.{last_start}
use Rattle.order_graph.proofs.graphs.Graph.least_cycle.Goals as goal

pub loop-start-init : goal.loop-start-init
loop-start-init c =
    let w = c.read-tables.result.width in
    let zeros : c.in_ok-passed.passed.items ≡ replicate w 0 = c.in_ok-passed.ensures.items_if_clones_equal (λ y e. e) in (
      (λ x rest h. absurd (omega (arith, h))),
      (ap length zeros ∙ length-replicate {A = ℕ} w 0),
      λ y h. (λ s. absurd (no_bit w w 0 y (subst (λ l. IsSet l w 0 y) zeros s)), λ less. absurd (omega (arith, less))),
    )

pub returns : goal.returns
returns c =
    let g = c.self.inside in
    let t = c.read-tables.result in
    let same : (x y : ℕ) → IsEdge c.args.self.now x y ↔ Joined t.edges.now t.width t.nodes x y =
    rw (c.read-tables.ensures.nodes, c.read-tables.ensures.width, c.read-tables.ensures.edges)
    (sees_edge c.args.self.now g.tables.nodes g.tables.width g.tables.edges.items (record { grown = _; is = c.self.view_is })) in
    last_start (λ v. v.items) (Joined t.edges.now t.width t.nodes) (IsEdge c.args.self.now) t.nodes c.loop-start.start c.loop-start.best
    same (λ x y e. e.1) (omega arith) c.loop-start.invariant.0
