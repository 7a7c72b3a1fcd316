use Rattle.std.proofs.Common.{ℕ, refl, ap, ◌∙◌, replicate, arith}
use Rattle.order_graph.proofs.KeptTablesFacts.{Sees, sees_edge}
use Rattle.order_graph.proofs.GrownFacts.{IsNodeRow-empty, sees_settled}
use Rattle.order_graph.proofs.graphs.Graph.settle.Goals as goal

pub invariant_of-self : goal.invariant_of-self
invariant_of-self c =
    let g = c.self.inside in
    (c.self.invariant.0, IsNodeRow-empty g.tables.nodes g.tables.width _ (c.fill.ensures.items (λ y e. e) ∙ ap (λ n. replicate {A = ℕ} n 0) (omega (arith, c.self.invariant.1.sized))))

pub returns-clause-edges : goal.returns-clause-edges
returns-clause-edges c = λ x y.
    let g = c.self.inside in
    let own : Sees c.args.self.now g.tables.nodes g.tables.width g.tables.edges.items = record { grown = _; is = c.self.view_is } in
    let b = sees_edge _ _ _ _ own x y in
    let a = sees_edge _ g.tables.nodes g.tables.width g.tables.edges.items (record { grown = c.fill.new.self.items; is = refl }) x y in
    (λ e. b.1 (a.0 e), λ e. a.1 (b.0 e))

pub returns-clause-settled : goal.returns-clause-settled
returns-clause-settled c =
    let g = c.self.inside in
    sees_settled _ g.tables.nodes g.tables.width g.tables.edges.items c.fill.new.self.items refl (c.fill.ensures.items (λ y e. e) ∙ ap (λ n. replicate {A = ℕ} n 0) (omega (arith, c.self.invariant.1.sized)))
