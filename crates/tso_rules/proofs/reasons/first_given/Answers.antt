use Rattle.order_graph.specs.Digraphs.{IsEdge}
use Rattle.tso_cert.specs.declared.rules.InferredRule.TheVariants.{LoadPast, StorePast, SwapBefore, SwapAfter}
use Rattle.tso_rules.proofs.InferredFacts.{first_is, before_load_past, before_store_past, before_swap_before, before_swap_after, none_given}
use Rattle.tso_rules.proofs.reasons.first_given.Goals as goal

pub returns-in-Some : goal.returns-in-Some
returns-in-Some g c =
    let found = rw c.in-Some.is at c.in_ok-given.ensures in
    let given = c.in-Some.given in
    first_is c.args.trace.now (IsEdge (g.G.PathSearch.digraph c.args.graph.now)) c.args.u c.args.v given.rule LoadPast given.load given.from given.to found.0 found.1
    (before_load_past c.args.trace.now (IsEdge (g.G.PathSearch.digraph c.args.graph.now)) c.args.u c.args.v)

pub returns-in-Some-2 : goal.returns-in-Some-2
returns-in-Some-2 g c =
    let first_none = rw c.in_default.is at c.in_ok-given.ensures in
    let found = rw c.in-Some-2.is at c.in_ok-given-2.ensures in
    let given = c.in-Some-2.given in
    first_is c.args.trace.now (IsEdge (g.G.PathSearch.digraph c.args.graph.now)) c.args.u c.args.v given.rule StorePast given.load given.from given.to found.0 found.1
    (before_store_past c.args.trace.now (IsEdge (g.G.PathSearch.digraph c.args.graph.now)) c.args.u c.args.v first_none)

pub returns-in-Some-3 : goal.returns-in-Some-3
returns-in-Some-3 g c =
    let first_none = rw c.in_default.is at c.in_ok-given.ensures in
    let second_none = rw c.in_default-2.is at c.in_ok-given-2.ensures in
    let found = rw c.in-Some-3.is at c.in_ok-given-3.ensures in
    let given = c.in-Some-3.given in
    first_is c.args.trace.now (IsEdge (g.G.PathSearch.digraph c.args.graph.now)) c.args.u c.args.v given.rule SwapBefore given.load given.from given.to found.0 found.1
    (before_swap_before c.args.trace.now (IsEdge (g.G.PathSearch.digraph c.args.graph.now)) c.args.u c.args.v first_none second_none)

pub returns-in-Some-4 : goal.returns-in-Some-4
returns-in-Some-4 g c =
    let first_none = rw c.in_default.is at c.in_ok-given.ensures in
    let second_none = rw c.in_default-2.is at c.in_ok-given-2.ensures in
    let third_none = rw c.in_default-3.is at c.in_ok-given-3.ensures in
    let found = rw c.in-Some-4.is at c.in_ok-given-4.ensures in
    let given = c.in-Some-4.given in
    first_is c.args.trace.now (IsEdge (g.G.PathSearch.digraph c.args.graph.now)) c.args.u c.args.v given.rule SwapAfter given.load given.from given.to found.0 found.1
    (before_swap_after c.args.trace.now (IsEdge (g.G.PathSearch.digraph c.args.graph.now)) c.args.u c.args.v first_none second_none third_none)

pub returns : goal.returns
returns g c =
    let first_none = rw c.in_default.is at c.in_ok-given.ensures in
    let second_none = rw c.in_default-2.is at c.in_ok-given-2.ensures in
    let third_none = rw c.in_default-3.is at c.in_ok-given-3.ensures in
    let fourth_none = rw c.in_default-4.is at c.in_ok-given-4.ensures in
    λ rule l. none_given c.args.trace.now (IsEdge (g.G.PathSearch.digraph c.args.graph.now)) c.args.u c.args.v first_none second_none third_none fourth_none rule l
