use Rattle.std.proofs.Common.{◌∙◌, ℕ, ◌<◌, sym, subst}
use Rattle.std.proofs.lemmas.Bool.{false≢true}
use Rattle.chain_reach.specs.Groups.{IsIn, IsFirstFrom}
use Rattle.chain_rules.proofs.RuleFacts.{ready_small, swap_store_within, swap_after_none, swap_after_loads, swap_after_lowers}
use Rattle.chain_rules.proofs.rules.swap_after_in.Goals as goal

pub first_led-from-requires-clause-from : goal.first_led-from-requires-clause-from
first_led-from-requires-clause-from c = (swap_store_within c.args.input.trace.now c.args.input.tables.now c.args.input.reach.now c.args.l c.requires.ready c.requires.swap).0

pub returns-in_default : goal.returns-in_default
returns-in_default c = swap_after_none c.args.input.trace.now c.args.input.tables.now c.args.input.reach.now c.args.l c.args.d c.first_led-from.result c.args.least.now c.requires.ready (record { from = c.first_led-from.ensures })
    (subst (λ g. (v : ℕ) → IsIn g c.args.d v → v < c.first_led-from.result) c.chains.ensures.chains c.in_default.ensures)

pub lower-requires-clause-small : goal.lower-requires-clause-small
lower-requires-clause-small c =
    let is = subst (λ g. IsFirstFrom g c.args.d c.first_led-from.result c.in-Some.v) c.chains.ensures.chains c.in-Some.ensures in
    ready_small c.args.input.trace.now c.args.input.tables.now c.args.input.reach.now c.in-Some.v c.requires.ready is.inside.0

pub returns-then-is_store : goal.returns-then-is_store
returns-then-is_store c =
    let is = subst (λ g. IsFirstFrom g c.args.d c.first_led-from.result c.in-Some.v) c.chains.ensures.chains c.in-Some.ensures in
    swap_after_lowers c.args.input.trace.now c.args.input.tables.now c.args.input.reach.now c.args.l c.args.d c.first_led-from.result c.in-Some.v c.args.least.now c.lower.new.least c.requires.ready c.requires.swap (record { from = c.first_led-from.ensures }) is
    (c.is_store.ensures.0 c.if-is_store.true) c.lower.ensures

pub returns-else-is_store : goal.returns-else-is_store
returns-else-is_store c =
    let is = subst (λ g. IsFirstFrom g c.args.d c.first_led-from.result c.in-Some.v) c.chains.ensures.chains c.in-Some.ensures in
    swap_after_loads c.args.input.trace.now c.args.input.tables.now c.args.input.reach.now c.args.l c.args.d c.first_led-from.result c.in-Some.v c.args.least.now c.requires.ready is
    (λ store. false≢true (sym c.if-is_store.false ∙ c.is_store.ensures.1 store))
