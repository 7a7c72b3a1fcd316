use Rattle.std.proofs.Common.{refl, sym, ◌∙◌}
use Rattle.std.proofs.lemmas.Bool.{false≢true}
use Rattle.order_graph.specs.Digraphs.{IsEdge}
use Rattle.tso_rules.proofs.ReasonFacts.{given_past, past_first, past_one, none_found}
use Rattle.tso_rules.proofs.reasons.load_past_given.Goals as goal

pub returns-in_default : goal.returns-in_default
returns-in_default g c = λ l given.
    let past = given_past c.args.trace.now (IsEdge (g.G.PathSearch.digraph c.args.graph.now)) c.args.u c.args.v l given in
    c.in_default.ensures l past.0 past.1

pub returns-then-branch : goal.returns-then-branch
returns-then-branch g c = (
  refl,
  past_first c.args.trace.now (IsEdge (g.G.PathSearch.digraph c.args.graph.now)) c.args.u c.args.v c.in-Some.first c.in-Some.ensures (c.in_ok-leads.ensures.0 c.if-branch.true),
)

pub returns-then-is_none : goal.returns-then-is_none
returns-then-is_none g c =
    past_one c.args.trace.now (IsEdge (g.G.PathSearch.digraph c.args.graph.now)) c.args.u c.args.v c.in-Some.first c.in-Some.ensures
    (λ path. false≢true (sym c.if-branch.false ∙ c.in_ok-leads.ensures.1 path)) (none_found c.next_past-2.result _ _ c.if-is_none.ensures c.next_past-2.ensures)
