use Rattle.std.proofs.Common.{◌≡◌, ◌<◌, ◌≤◌, ◌+◌, ◌∙◌, ◌∷◌, [], List, length, map, ap, sym, subst, arith}
use Rattle.std.specs.Global.{Vec}
use Rattle.std.proofs.lemmas.Bool.Decides.{nat_tests}
use Rattle.std.proofs.lemmas.List.{length-append, length-map, map-append}
use Rattle.order_paths.specs.Paths.{HasCycle}
use Rattle.order_graph.specs.Digraphs.{IsEdge}
use Rattle.tso_model.proofs.Decided.{RankSet-decided}
use Rattle.tso_model.proofs.NewEdgeFacts.{new_within}
use Rattle.tso_model.proofs.Searches.{refused}
use Rattle.round_pool.specs.declared.ranked.Edge.{Edge}
use Rattle.round_pool.specs.RankGraphs.{AddsEdges}
use Rattle.round_pool.specs.Internal.Worksets.{ClosesCycle}
use Rattle.round_pool.specs.Rankings.{ListsEdge}
use Rattle.round_pool.proofs.RoundFacts.{AreRoundsMade, over_base, made_none, made_with_cycle, made_without_cycle, made_before_last, round_step, still_acyclic, made_then_cycle}
use Rattle.round_pool.proofs.RankedFacts.{added_within}
use Rattle.round_pool.proofs.round_loop.rounds_after_acyclic.Goals as goal

pub returns-then-has_cycle : goal.returns-then-has_cycle
returns-then-has_cycle g c =
    let none = ap (λ (l : List (Vec Edge)). map (λ (v : Vec Edge). v.items) l) c.new-added.ensures.items in
    made_with_cycle c.args.trace.now c.in_ok-last.last (map (λ (v : Vec Edge). v.items) c.new-added.result.items)
    (subst (λ l. AreRoundsMade c.args.trace.now c.in_ok-last.last l) (sym none) (made_none c.args.trace.now c.in_ok-last.last c.in_ok-last.ensures)) c.requires.written (c.has_cycle.ensures.0 c.if-has_cycle.true)

pub loop-numbers-init : goal.loop-numbers-init
loop-numbers-init g c =
    let none = ap (λ (l : List (Vec Edge)). map (λ (v : Vec Edge). v.items) l) c.new-added.ensures.items in (
      subst (λ l. AreRoundsMade c.args.trace.now c.in_ok-last.last l) (sym none) (made_none c.args.trace.now c.in_ok-last.last c.in_ok-last.ensures),
      record { none = refused (HasCycle (IsEdge c.in_ok-last.last)) (rw c.if-has_cycle.false at c.has_cycle.ensures) },
      c.in_ok-numbers.ensures c.in_ok-last.last,
      c.first_workers-sharing.ensures.some,
      omega (arith, c.first_workers-sharing.ensures.most, c.requires.most),
    )

pub round_edges-requires-clause-base : goal.round_edges-requires-clause-base
round_edges-requires-clause-base g c = λ κs lives. over_base c.args.trace.now (length (map (λ (v : Vec Edge). v.items) c.loop-numbers.added.items)) c.loop-numbers.last c.in_ok-masks.masks c.loop-numbers.invariant.0.graph c.in_ok-masks.ensures

pub returns-then-is_empty : goal.returns-then-is_empty
returns-then-is_empty g c =
    let edges = c.in_ok-edges.edges in
    let empty : length edges.items ≡ 0 = grind (arith, nat_tests, c.is_empty.ensures, edges.ok.0) in
    made_without_cycle c.args.trace.now c.loop-numbers.last (map (λ (v : Vec Edge). v.items) c.loop-numbers.added.items) edges.items c.loop-numbers.invariant.0 c.requires.written c.loop-numbers.invariant.1.none
    c.in_ok-edges.ensures empty

pub invariant_of-result-then-is_empty : goal.invariant_of-result-then-is_empty
invariant_of-result-then-is_empty g c =
    let edges = c.in_ok-edges.edges in
    let empty : length edges.items ≡ 0 = grind (arith, nat_tests, c.is_empty.ensures, edges.ok.0) in
    let added = map (λ (v : Vec Edge). v.items) c.loop-numbers.added.items in
    added_within c.args.trace.now (record { last = c.loop-numbers.last; added = added })
    (made_without_cycle c.args.trace.now c.loop-numbers.last added edges.items c.loop-numbers.invariant.0 c.requires.written c.loop-numbers.invariant.1.none c.in_ok-edges.ensures empty)

pub add_round-requires : goal.add_round-requires
add_round-requires g c = λ u v has.
    let edges = subst (λ (l : List Edge). ListsEdge l u v) c.deref-in-loop-numbers.ensures.value has in
    let within = new_within c.args.trace.now (IsEdge c.loop-numbers.last) u v (c.in_ok-edges.ensures.only u v edges) in
    let nodes = c.loop-numbers.invariant.0.graph.nodes in
    (omega (arith, within.0, nodes), omega (arith, within.1, nodes))

pub ends_in_cycle-is_cyclic-requires : goal.ends_in_cycle-is_cyclic-requires
ends_in_cycle-is_cyclic-requires g c = λ u v has.
    let edges = subst (λ (l : List Edge). ListsEdge l u v) c.deref-in-loop-numbers-2.ensures.value has in
    let within = new_within c.args.trace.now (IsEdge c.loop-numbers.last) u v (c.in_ok-edges.ensures.only u v edges) in
    let nodes = c.add_round.ensures.edges.nodes ∙ c.loop-numbers.invariant.0.graph.nodes in
    (omega (arith, within.0, nodes), omega (arith, within.1, nodes))

pub returns-then-is_cyclic : goal.returns-then-is_cyclic
returns-then-is_cyclic g c =
    let edges = c.in_ok-edges.edges in
    let t = c.args.trace.now in
    let some : 0 < length edges.items = grind (arith, nat_tests, c.is_empty.ensures, edges.ok.0) in
    let added = map (λ (v : Vec Edge). v.items) c.loop-numbers.added.items in
    let step = round_step t c.loop-numbers.last c.add_round.new.graph added edges.items c.loop-numbers.invariant.0 c.loop-numbers.invariant.1 c.in_ok-edges.ensures some (RankSet-decided t (length added))
    (subst (λ (l : List Edge). AddsEdges c.loop-numbers.last c.add_round.new.graph (ListsEdge l)) c.deref-in-loop-numbers.ensures.value c.add_round.ensures.edges) c.add_round.ensures.grown in
    let closes = subst (λ (l : List Edge). ClosesCycle c.add_round.new.graph (ListsEdge l)) c.deref-in-loop-numbers-2.ensures.value ((c.ends_in_cycle-is_cyclic.ensures.0 c.if-is_cyclic.true).1) in
    let pushed = ap (λ (l : List (Vec Edge)). map (λ (v : Vec Edge). v.items) l) c.in_ok-push.ensures.items ∙ map-append (λ (v : Vec Edge). v.items) c.loop-numbers.added.items (edges ∷ []) in
    made_then_cycle t c.loop-numbers.last c.add_round.new.graph added (map (λ (v : Vec Edge). v.items) c.push.new.self.items) edges.items step c.requires.written closes pushed

pub invariant_of-result-then-is_cyclic : goal.invariant_of-result-then-is_cyclic
invariant_of-result-then-is_cyclic g c =
    let edges = c.in_ok-edges.edges in
    let t = c.args.trace.now in
    let some : 0 < length edges.items = grind (arith, nat_tests, c.is_empty.ensures, edges.ok.0) in
    let added = map (λ (v : Vec Edge). v.items) c.loop-numbers.added.items in
    let step = round_step t c.loop-numbers.last c.add_round.new.graph added edges.items c.loop-numbers.invariant.0 c.loop-numbers.invariant.1 c.in_ok-edges.ensures some (RankSet-decided t (length added))
    (subst (λ (l : List Edge). AddsEdges c.loop-numbers.last c.add_round.new.graph (ListsEdge l)) c.deref-in-loop-numbers.ensures.value c.add_round.ensures.edges) c.add_round.ensures.grown in
    let closes = subst (λ (l : List Edge). ClosesCycle c.add_round.new.graph (ListsEdge l)) c.deref-in-loop-numbers-2.ensures.value ((c.ends_in_cycle-is_cyclic.ensures.0 c.if-is_cyclic.true).1) in
    let pushed = ap (λ (l : List (Vec Edge)). map (λ (v : Vec Edge). v.items) l) c.in_ok-push.ensures.items ∙ map-append (λ (v : Vec Edge). v.items) c.loop-numbers.added.items (edges ∷ []) in
    added_within t (record { last = c.add_round.new.graph; added = map (λ (v : Vec Edge). v.items) c.push.new.self.items }) (made_then_cycle t c.loop-numbers.last c.add_round.new.graph added (map (λ (v : Vec Edge). v.items) c.push.new.self.items) edges.items step c.requires.written closes pushed)

pub loop-numbers-smaller : goal.loop-numbers-smaller
loop-numbers-smaller g c =
    let edges = c.in_ok-edges.edges in
    let some : 0 < length edges.items = grind (arith, nat_tests, c.is_empty.ensures, edges.ok.0) in
    let before = made_before_last c.args.trace.now c.loop-numbers.last (map (λ (v : Vec Edge). v.items) c.loop-numbers.added.items) edges.items c.loop-numbers.invariant.0 c.in_ok-edges.ensures some in
    let size = length-map c.loop-numbers.added.items (λ (v : Vec Edge). v.items) in
    let pushed = ap (λ (l : List (Vec Edge)). length l) c.in_ok-push.ensures.items in
    let longer = length-append c.loop-numbers.added.items (edges ∷ []) in
    omega (arith, before, size, pushed, longer)

pub loop-numbers-preserved : goal.loop-numbers-preserved
loop-numbers-preserved g c =
    let edges = c.in_ok-edges.edges in
    let t = c.args.trace.now in
    let some : 0 < length edges.items = grind (arith, nat_tests, c.is_empty.ensures, edges.ok.0) in
    let added = map (λ (v : Vec Edge). v.items) c.loop-numbers.added.items in
    let step = round_step t c.loop-numbers.last c.add_round.new.graph added edges.items c.loop-numbers.invariant.0 c.loop-numbers.invariant.1 c.in_ok-edges.ensures some (RankSet-decided t (length added))
    (subst (λ (l : List Edge). AddsEdges c.loop-numbers.last c.add_round.new.graph (ListsEdge l)) c.deref-in-loop-numbers.ensures.value c.add_round.ensures.edges) c.add_round.ensures.grown in
    let number = c.len-in-loop-numbers.result + 1 in
    let acyclic = c.args.acyclic in
    let counted : number ≡ length added + 1 = omega (arith, c.len-in-loop-numbers.ensures, length-map c.loop-numbers.added.items (λ (v : Vec Edge). v.items)) in
    let unclosed = refused ((acyclic ≤ number) × ClosesCycle c.add_round.new.graph (ListsEdge c.deref-in-loop-numbers-2.result.now)) (rw c.if-is_cyclic.false at c.ends_in_cycle-is_cyclic.ensures) in
    let pushed = ap (λ (l : List (Vec Edge)). map (λ (v : Vec Edge). v.items) l) c.in_ok-push.ensures.items ∙ map-append (λ (v : Vec Edge). v.items) c.loop-numbers.added.items (edges ∷ []) in (
      subst (λ l. AreRoundsMade t c.add_round.new.graph l) (sym pushed) step.made,
      still_acyclic t c.loop-numbers.last c.add_round.new.graph added edges.items number acyclic step c.loop-numbers.invariant.1 counted c.requires.acyclic
          (subst (λ (l : List Edge). (acyclic ≤ number) × ClosesCycle c.add_round.new.graph (ListsEdge l) → ⊥) c.deref-in-loop-numbers-2.ensures.value unclosed),
      c.in_ok-numbers-2.ensures (length added) c.loop-numbers.last step.follows,
      c.later_workers-sharing.ensures.some,
      omega (arith, c.later_workers-sharing.ensures.most, c.requires.most),
    )
