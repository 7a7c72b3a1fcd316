use Rattle.std.proofs.Common.{◌≡◌, [], ◌∷◌, ◌++◌, arith}
use Rattle.std.proofs.lemmas.Grind.{common_steps}
use Rattle.order_graph.specs.Internal.Tables.{Joined}
use Rattle.order_graph.proofs.CyclesFacts.{IsLeastPath-track}
use Rattle.order_graph.proofs.searches.least_path_of.Goals as goal

pub returns : goal.returns
returns c =
    let a = c.args in
    let found = rw c.in-Some.is at c.in_ok-list.ensures in
    let items : c.push.new.self.items ≡ c.in-Some.list.items ++ a.v ∷ [] = grind (arith, common_steps, c.in_ok-push-in-Some.ensures.items) in
    IsLeastPath-track (Joined a.tables.edges.now a.tables.width a.tables.nodes) (Joined a.tables.edges.now a.tables.width a.tables.nodes) a.u a.v c.in-Some.list.items c.push.new.self.items (λ x y. (λ e. e, λ e. e)) found.0 items
