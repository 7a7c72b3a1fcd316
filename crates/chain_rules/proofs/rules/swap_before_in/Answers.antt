use Rattle.std.proofs.Common.{◌≡◌, ◌∙◌, suc, ◌-◌, ◌<◌, arith, sym, subst, ap}
use Rattle.tso_ops.proofs.NumberFacts.{IsStore-within}
use Rattle.chain_reach.specs.declared.types.Groups.{Groups}
use Rattle.chain_reach.specs.Groups.{node_count, group_of, IsFirstFrom}
use Rattle.chain_rules.specs.Internal.Lowering.{LowersAt}
use Rattle.chain_rules.proofs.RuleFacts.{ready_within, ready_small, swap_store_within, swap_before_load, swap_before_none, swap_before_lowers}
use Rattle.chain_rules.proofs.rules.swap_before_in.Goals as goal

pub first_led-from-requires-clause-from : goal.first_led-from-requires-clause-from
first_led-from-requires-clause-from c = ready_within c.args.input.trace.now c.args.input.tables.now c.args.input.reach.now c.args.u c.requires.ready (IsStore-within c.args.input.trace.now c.args.u c.requires.store)

pub overflow_sub-l : goal.overflow_sub-l
overflow_sub-l c =
    let load = swap_before_load c.args.input.trace.now c.args.input.tables.now c.args.input.reach.now c.args.d c.first_led-from.result c.in-Some.w c.requires.ready c.requires.chain c.in-Some.ensures in
    let is = load.1 in
    omega (arith, is)

pub group-requires : goal.group-requires
group-requires c =
    let load = swap_before_load c.args.input.trace.now c.args.input.tables.now c.args.input.reach.now c.args.d c.first_led-from.result c.in-Some.w c.requires.ready c.requires.chain c.in-Some.ensures in
    let is = load.1 in
    let within : load.0 < node_count c.args.input.reach.now.chains = (swap_store_within c.args.input.trace.now c.args.input.tables.now c.args.input.reach.now load.0 c.requires.ready load.2).0 in
    subst (λ g. c.in-Some.w - 1 < node_count g) (sym c.chains.ensures.chains) (subst (λ n. n < node_count c.args.input.reach.now.chains) (omega (arith, is)) within)

pub lower-requires-clause-small : goal.lower-requires-clause-small
lower-requires-clause-small c =
    let load = swap_before_load c.args.input.trace.now c.args.input.tables.now c.args.input.reach.now c.args.d c.first_led-from.result c.in-Some.w c.requires.ready c.requires.chain c.in-Some.ensures in
    let is = load.1 in
    let within : load.0 < node_count c.args.input.reach.now.chains = (swap_store_within c.args.input.trace.now c.args.input.tables.now c.args.input.reach.now load.0 c.requires.ready load.2).0 in
    let small = ready_small c.args.input.trace.now c.args.input.tables.now c.args.input.reach.now load.0 c.requires.ready within in
    omega (arith, is, small)

pub returns-in-Some : goal.returns-in-Some
returns-in-Some c =
    let load = swap_before_load c.args.input.trace.now c.args.input.tables.now c.args.input.reach.now c.args.d c.first_led-from.result c.in-Some.w c.requires.ready c.requires.chain c.in-Some.ensures in
    let is = load.1 in
    let one : c.in-Some.w ≡ suc (c.in-Some.w - 1) = omega (arith, is) in
    let chain : c.group.result ≡ group_of c.args.input.reach.now.chains (c.in-Some.w - 1) = c.group.ensures.group ∙ ap (λ (g : Groups). group_of g (c.in-Some.w - 1)) c.chains.ensures.chains in
    swap_before_lowers c.args.input.trace.now c.args.input.tables.now c.args.input.reach.now c.args.u c.args.d c.first_led-from.result (c.in-Some.w - 1) c.args.least.now c.lower.new.least c.requires.ready c.requires.store c.requires.chain (record { from = c.first_led-from.ensures })
    (subst (λ n. IsFirstFrom c.args.input.tables.now.swaps c.args.d c.first_led-from.result n) one c.in-Some.ensures)
    (subst (λ n. LowersAt c.args.least.now c.lower.new.least n (c.in-Some.w - 1)) chain c.lower.ensures)

pub returns-in_default : goal.returns-in_default
returns-in_default c = swap_before_none c.args.input.trace.now c.args.input.tables.now c.args.input.reach.now c.args.u c.args.d c.first_led-from.result c.args.least.now c.requires.ready c.requires.chain (record { from = c.first_led-from.ensures }) c.in_default.ensures
