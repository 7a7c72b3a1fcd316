use Rattle.std.proofs.Common.{refl}
use Rattle.order_graph.specs.Digraphs.{IsEdge}
use Rattle.tso_rules.proofs.ReasonFacts.{past_given, past_gives}
use Rattle.tso_rules.proofs.reasons.load_past_searched.Goals as goal

pub returns-in_default : goal.returns-in_default
returns-in_default g c = λ l given.
    let none = rw c.deref.ensures.value at c.in_default.ensures in
    none l (past_given c.args.trace.now (IsEdge (g.G.PathSearch.digraph c.args.graph.now)) c.in_ok-reached.reached.items c.args.u c.args.v (λ y. (c.in_ok-reached.ensures.path y).1) l given)

pub returns : goal.returns
returns g c =
    let first = rw c.deref.ensures.value at c.in-Some.ensures in (
      refl,
      past_gives c.args.trace.now (IsEdge (g.G.PathSearch.digraph c.args.graph.now)) c.in_ok-reached.reached.items c.args.u c.args.v c.in-Some.load
          (λ y. (c.in_ok-reached.ensures.path y).0) (λ y. (c.in_ok-reached.ensures.path y).1) first,
    )
