use Rattle.std.proofs.Common.{◌≡◌, ◌∙◌, ◌+◌, refl, sym, subst}
use Rattle.bitsets.specs.Rows.{IsListOf}
use Rattle.chain_reach.specs.Groups.{IsIn}
use Rattle.program_chains.proofs.ReachFacts.{LeadsEarlier, earlier_none, earlier_join, member_within, members_first}
use Rattle.program_chains.proofs.reaches.join_earlier.Goals as goal
use Rattle.program_chains.proofs.reaches.join_earlier.Goals.{then-count-gt0, else-count-gt0}

pub count_before-count-requires-clause-within : goal.count_before-count-requires-clause-within
count_before-count-requires-clause-within c =
    let old = c.args.reach.now in
    let chains_are : c.chains-in-loop-d.result.now ≡ old.chains = c.chains-in-loop-d.ensures.chains ∙ c.loop-d.invariant.grows.chains in
    member_within c.args.order c.args.events.now old.chains c.list-members.result.now c.loop-d.d c.requires.chains
    (subst (λ g. IsListOf c.list-members.result.now (IsIn g c.loop-d.d)) chains_are c.list-members.ensures)

pub count_before-count-requires-clause-first : goal.count_before-count-requires-clause-first
count_before-count-requires-clause-first c =
    let old = c.args.reach.now in
    let chains_are : c.chains-in-loop-d.result.now ≡ old.chains = c.chains-in-loop-d.ensures.chains ∙ c.loop-d.invariant.grows.chains in
    members_first c.args.order c.args.events.now old.chains c.list-members.result.now c.args.v c.loop-d.d c.requires.chains
    (subst (λ g. IsListOf c.list-members.result.now (IsIn g c.loop-d.d)) chains_are c.list-members.ensures)

pub loop-d-preserved : goal.loop-d-preserved
loop-d-preserved c =
    let order = c.args.order in
    let events = c.args.events.now in
    let old = c.args.reach.now in
    let members = c.list-members.result.now in
    let chains_are : c.chains-in-loop-d.result.now ≡ old.chains = c.chains-in-loop-d.ensures.chains ∙ c.loop-d.invariant.grows.chains in
    let list : IsListOf members (IsIn old.chains c.loop-d.d) = subst (λ g. IsListOf members (IsIn g c.loop-d.d)) chains_are c.list-members.ensures in
    elim c.if-count-gt0.branch [
      | then-count-gt0 w ↦ subst (λ r. LeadsEarlier order events old r c.args.v (c.loop-d.d + 1)) (sym w.reach-is)
          (earlier_join order events old c.loop-d.reach w.join.new.self members _ c.args.v c.loop-d.d c.count_before-count.result c.requires.chains c.loop-d.invariant list c.count_before-count.ensures
          w.if-count-gt0.true refl w.join.ensures c.chains-in-loop-d.ensures.ordered)
      | else-count-gt0 w ↦ subst (λ r. LeadsEarlier order events old r c.args.v (c.loop-d.d + 1)) (sym w.reach-is)
          (earlier_none order events old c.loop-d.reach members c.args.v c.loop-d.d c.count_before-count.result c.requires.chains c.loop-d.invariant list c.count_before-count.ensures
          w.if-count-gt0.false)
    ]
