use Rattle.std.proofs.Common.{◌≡◌, ℕ, ◌+◌, ◌<◌, sym, ap, ◌∙◌, subst, arith}
use Rattle.chain_reach.specs.Groups.{count_of, group_of, IsIn}
use Rattle.chain_reach.proofs.JoinFacts.{groups_within}
use Rattle.chain_rules.specs.Internal.BaseJoins.{IsAfter, IsFirstAfter}
use Rattle.chain_rules.proofs.BaseReachFacts.{LeadsLater, later_none, later_join}
use Rattle.chain_rules.proofs.ProgramOrderFacts.{after_within}
use Rattle.chain_rules.proofs.base.join_later.Goals as goal
use Rattle.chain_rules.proofs.base.join_later.Goals.{in-Some, in_default}

pub loop-d-preserved : goal.loop-d-preserved
loop-d-preserved c =
    let t = c.args.trace.now in
    let old = c.args.reach.now in
    let u = c.args.u in
    let chains_are : c.chains-in-loop-d.result.now ≡ old.chains = c.chains-in-loop-d.ensures.chains ∙ c.loop-d.invariant.grows.chains in
    elim c.match-first_later.branch [
      | in-Some w ↦ subst (λ r. LeadsLater t old r u (c.loop-d.d + 1)) (sym w.reach-is)
          (later_join t old c.loop-d.reach w.join.new.self u c.loop-d.d w.in-Some.v c.requires.chains c.loop-d.invariant
          (subst (λ g. IsFirstAfter t g c.loop-d.d u w.in-Some.v) chains_are w.in-Some.ensures) w.join.ensures c.chains-in-loop-d.ensures.ordered)
      | in_default w ↦ subst (λ r. LeadsLater t old r u (c.loop-d.d + 1)) (sym w.reach-is)
          (later_none t old c.loop-d.reach u c.loop-d.d c.loop-d.invariant
          (subst (λ g. (v : ℕ) → IsIn g c.loop-d.d v → IsAfter t u v → ⊥) chains_are w.in_default.ensures)
          (after_within t old.chains c.requires.chains u))
    ]

pub returns-clause-led : goal.returns-clause-led
returns-clause-led c = λ v after.
    let g = c.args.reach.now.chains in
    let within = groups_within g.keys.items g.lists.items (λ list. list.items) g.grouped in
    let low : group_of g v < count_of g = within v (after_within c.args.trace.now g c.requires.chains c.args.u v after) in
    let count : c.count-d-end.result ≡ count_of g = c.count-d-end.ensures ∙ ap count_of c.chains.ensures.chains in
    c.loop-d.invariant.led v (omega (arith, low, count)) after
