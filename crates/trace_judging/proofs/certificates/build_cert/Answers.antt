use Rattle.std.proofs.Common.{◌≡◌, sym, subst, ◌∙◌}
use Rattle.order_paths.specs.Paths.{IsCycle, IsLeastCycle}
use Rattle.order_paths.proofs.Reach.{HasCycle-mono}
use Rattle.order_graph.specs.Digraphs.{IsEdge}
use Rattle.tso_model.specs.Ranks.{RankSet}
use Rattle.tso_model.specs.Certs.{AreStepsOf}
use Rattle.tso_model.proofs.RoundsNumber.{rounds_tell_cycles}
use Rattle.round_pool.specs.Rankings.{rounds_of}
use Rattle.trace_judging.proofs.RoundSteps.{least_cycle_as}
use Rattle.trace_judging.proofs.certificates.build_cert.Goals as goal

pub returns-in_default : goal.returns-in_default
returns-in_default c = λ derived.
    let t = c.args.trace.now in
    let k = rounds_of c.args.ranked.now in
    let none = rw (c.in_default.is, c.last.ensures) at c.in_ok-least.ensures in
    none (HasCycle-mono (RankSet t k) (IsEdge c.args.ranked.now.last) (λ x y. (c.requires.ranked.last.edges x y).1) ((rounds_tell_cycles t k c.requires.written c.requires.ranked.rounds).0 derived))

pub steps_of-requires-clause-cycle : goal.steps_of-requires-clause-cycle
steps_of-requires-clause-cycle c =
    let t = c.args.trace.now in
    let k = rounds_of c.args.ranked.now in
    let least = rw (c.in-Some.is, c.last.ensures) at c.in_ok-least.ensures in
    let items : c.in_ok-cycle.cycle ≡ c.in-Some.least.items = c.in_ok-cycle.ensures ∙ c.deref.ensures.value in
    subst (λ l. IsCycle (RankSet t k) l) (sym items) (least_cycle_as (IsEdge c.args.ranked.now.last) (RankSet t k) c.in-Some.least.items c.requires.ranked.last.edges least).0

pub returns : goal.returns
returns c =
    let t = c.args.trace.now in
    let k = rounds_of c.args.ranked.now in
    let least = rw (c.in-Some.is, c.last.ensures) at c.in_ok-least.ensures in
    let items : c.in_ok-cycle.cycle ≡ c.in-Some.least.items = c.in_ok-cycle.ensures ∙ c.deref.ensures.value in (
      c.requires.written,
      (k, c.requires.ranked.rounds, subst (λ l. IsLeastCycle (RankSet t k) l) (sym items) (least_cycle_as (IsEdge c.args.ranked.now.last) (RankSet t k) c.in-Some.least.items c.requires.ranked.last.edges least)),
      subst (λ l. AreStepsOf t l c.in_ok-cycle.cycle) (sym (c.new.ensures ∙ c.reverse.ensures.items)) c.in_ok-steps.ensures,
    )
