use Rattle.std.proofs.Common.{◌↔◌, ℕ, sym, subst}
use Rattle.order_paths.specs.Paths.{Reaches}
use Rattle.chain_reach.specs.Leading.{Leads}
use Rattle.program_chains.specs.Chains.{AreProgramChains}
use Rattle.program_chains.specs.LogEvents.{log_trace}
use Rattle.program_chains.specs.Internal.Keys.{AreKeyed}
use Rattle.program_chains.specs.Internal.Pairs.{ArePairChains, IsPair}
use Rattle.program_chains.proofs.PairFacts.{pair_chains, paths_of, program_chains}
use Rattle.program_chains.proofs.orders.ProgramOrder.of_log.Goals as goal

pub reach_of-requires : goal.reach_of-requires
reach_of-requires c =
    let order = c.args.log.now.order in
    let keyed = subst (λ events. AreKeyed order events c.in_ok-chains.chains) c.deref.ensures.value c.in_ok-chains.ensures in
    subst (λ events. ArePairChains order events c.in_ok-chains.chains) (sym c.deref-2.ensures.value)
    (pair_chains (log_trace c.args.log.now) c.in_ok-events.events.items c.in_ok-chains.chains c.in_ok-events.ensures keyed)

pub returns-clause-chains : goal.returns-clause-chains
returns-clause-chains c =
    let keyed = subst (λ events. AreKeyed c.args.log.now.order events c.in_ok-chains.chains) c.deref.ensures.value c.in_ok-chains.ensures in
    subst (AreProgramChains (log_trace c.args.log.now)) (sym c.in_ok-reach.ensures.chains)
    (program_chains (log_trace c.args.log.now) c.in_ok-events.events.items c.in_ok-chains.chains c.in_ok-events.ensures keyed)

pub returns-clause-leads : goal.returns-clause-leads
returns-clause-leads c =
    let t = log_trace c.args.log.now in
    let events = c.in_ok-events.events.items in
    let leads = subst (λ es. (x y : ℕ) → Leads c.in_ok-reach.reach x y ↔ Reaches (IsPair c.args.log.now.order es) x y) c.deref-2.ensures.value c.in_ok-reach.ensures.leads in
    λ x y. let paths = paths_of t events c.in_ok-events.ensures x y in (
      λ led. paths.0 ((leads x y).0 led),
      λ path. (leads x y).1 (paths.1 path),
    )
