use Rattle.std.proofs.Common.{◌≡◌, ◌∙◌, length, replicate, sym, subst, ap, arith}
use Rattle.std.proofs.lemmas.Result.{IfOk-weaker}
use Rattle.std.proofs.lemmas.Option.{none-some}
use Rattle.tso_ops.proofs.EventFacts.{event_total-most}
use Rattle.tso_ops.proofs.NumberFacts.{IsEvent-within}
use Rattle.chain_reach.specs.declared.types.Groups.{Groups}
use Rattle.chain_reach.specs.Groups.{count_of}
use Rattle.chain_rules.specs.Internal.Lowering.{AreLeft}
use Rattle.chain_rules.specs.Rows.{IsLeastRow}
use Rattle.chain_rules.proofs.RuleFacts.{ready_within}
use Rattle.chain_rules.proofs.TableFacts.{are_ready}
use Rattle.chain_rules.proofs.RowFacts.{AreLowered, AreLowered-from, LeastRow, LeastRow-none, written_back}
use Rattle.chain_rules.proofs.rows.least_row.Goals as goal

pub returns-in_default : goal.returns-in_default
returns-in_default c =
    subst (λ xs. IsLeastRow c.args.input.trace.now c.args.input.reach.now c.args.u xs) (sym c.new.ensures.items) (LeastRow-none c.args.input.trace.now c.args.input.reach.now c.args.u (λ event. none-some event.0 (c.in_default.ensures ∙ event.1)))

pub overflow_cast-nodes : goal.overflow_cast-nodes
overflow_cast-nodes c =
    let most = event_total-most c.args.input.trace.now c.node_count-nodes.ensures.kept in
    omega (arith, most, c.node_count-nodes.ensures.count)

pub new_numbers-requires-clause-number : goal.new_numbers-requires-clause-number
new_numbers-requires-clause-number c =
    let ready = are_ready c.args.input.trace.now c.args.input.tables.now c.args.input.reach.now c.node_count-nodes.ensures.kept c.requires.chains c.requires.tables c.requires.acyclic in
    ready_within c.args.input.trace.now c.args.input.tables.now c.args.input.reach.now c.args.u ready (IsEvent-within c.args.input.trace.now c.args.u (c.in-Some.event, sym c.in-Some.ensures))

pub new_numbers-requires-clause-members : goal.new_numbers-requires-clause-members
new_numbers-requires-clause-members c =
    let ready = are_ready c.args.input.trace.now c.args.input.tables.now c.args.input.reach.now c.node_count-nodes.ensures.kept c.requires.chains c.requires.tables c.requires.acyclic in
    let count : c.count.result ≡ count_of c.args.input.reach.now.chains = c.count.ensures ∙ ap (λ (g : Groups). count_of g) c.chains.ensures.chains in
    let first : c.deref_mut.result.now ≡ replicate c.count.result c.node_count-nodes.result = c.deref_mut.ensures.value ∙ c.in_ok-least.ensures.items_if_clones_equal (λ y e. e) in
    let sized = c.lower_by_rules.ensures.sized in
    let len : length c.deref_mut.result.now ≡ c.in_ok-least.least.len = c.deref_mut.ensures.len in
    let back = written_back c.deref.result.now c.lower_by_rules.new.least c.in_ok-least.least.items c.in_ok-least.least.len c.deref.ensures.value (sym (sized ∙ len)) in
    let lowered = subst (λ xs. AreLowered c.args.input.trace.now c.args.input.tables.now c.args.input.reach.now c.args.u xs) (sym back)
    (AreLowered-from c.args.input.trace.now c.args.input.tables.now c.args.input.reach.now c.args.u c.node_count-nodes.result c.count.result c.deref_mut.result.now c.lower_by_rules.new.least ready c.node_count-nodes.ensures.count count first c.lower_by_rules.ensures) in
    λ d low within. (lowered.may d low within).0

pub returns : goal.returns
returns c =
    let ready = are_ready c.args.input.trace.now c.args.input.tables.now c.args.input.reach.now c.node_count-nodes.ensures.kept c.requires.chains c.requires.tables c.requires.acyclic in
    let count : c.count.result ≡ count_of c.args.input.reach.now.chains = c.count.ensures ∙ ap (λ (g : Groups). count_of g) c.chains.ensures.chains in
    let first : c.deref_mut.result.now ≡ replicate c.count.result c.node_count-nodes.result = c.deref_mut.ensures.value ∙ c.in_ok-least.ensures.items_if_clones_equal (λ y e. e) in
    let sized = c.lower_by_rules.ensures.sized in
    let len : length c.deref_mut.result.now ≡ c.in_ok-least.least.len = c.deref_mut.ensures.len in
    let back = written_back c.deref.result.now c.lower_by_rules.new.least c.in_ok-least.least.items c.in_ok-least.least.len c.deref.ensures.value (sym (sized ∙ len)) in
    let lowered = subst (λ xs. AreLowered c.args.input.trace.now c.args.input.tables.now c.args.input.reach.now c.args.u xs) (sym back)
    (AreLowered-from c.args.input.trace.now c.args.input.tables.now c.args.input.reach.now c.args.u c.node_count-nodes.result c.count.result c.deref_mut.result.now c.lower_by_rules.new.least ready c.node_count-nodes.ensures.count count first c.lower_by_rules.ensures) in
    IfOk-weaker c.new_numbers.result (λ row. AreLeft c.args.input.reach.now c.args.u c.deref.result.now (length c.deref.result.now) row.items) (λ row. IsLeastRow c.args.input.trace.now c.args.input.reach.now c.args.u row.items)
    (λ row left. LeastRow c.args.input.trace.now c.args.input.tables.now c.args.input.reach.now c.args.u c.deref.result.now row.items lowered left) c.new_numbers.ensures

pub lower_by_rules-requires-clause-ready : goal.lower_by_rules-requires-clause-ready
lower_by_rules-requires-clause-ready c = are_ready c.args.input.trace.now c.args.input.tables.now c.args.input.reach.now c.node_count-nodes.ensures.kept c.requires.chains c.requires.tables c.requires.acyclic
