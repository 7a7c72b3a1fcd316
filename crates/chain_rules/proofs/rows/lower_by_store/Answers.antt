use Rattle.std.proofs.Common.{suc, ◌-◌, arith}
use Rattle.tso_ops.proofs.NumberFacts.{event_above_zero}
use Rattle.chain_rules.proofs.RowFacts.{ByStore, ByStore-none, no_swap}
use Rattle.chain_rules.proofs.rows.lower_by_store.Goals as goal

pub returns-then-is_some : goal.returns-then-is_some
returns-then-is_some c =
    let above = event_above_zero c.args.input.trace.now c.args.u (c.requires.store.0, c.requires.store.1) in
    ByStore c.args.input.trace.now c.args.input.reach.now c.args.u (suc (c.args.u - 1)) c.args.least.now c.lower_load_past.new.least c.lower_swap_before.new.least c.lower_swap_after.new.least (c.requires.store.0, c.requires.store.1, c.requires.store.2)
    c.lower_load_past.ensures c.lower_swap_before.ensures (omega (arith, above)) c.lower_swap_after.ensures

pub returns-else-is_some : goal.returns-else-is_some
returns-else-is_some c =
    let above = event_above_zero c.args.input.trace.now c.args.u (c.requires.store.0, c.requires.store.1) in
    ByStore-none c.args.input.trace.now c.args.input.reach.now c.args.u (c.args.u - 1) c.args.least.now c.lower_load_past.new.least c.lower_swap_before.new.least (c.requires.store.0, c.requires.store.1, c.requires.store.2)
    c.lower_load_past.ensures c.lower_swap_before.ensures (omega (arith, above)) (no_swap c.args.input.trace.now (c.args.u - 1) c.swap_store.result c.swap_store.ensures c.if-is_some.ensures)

pub overflow_sub-l : goal.overflow_sub-l
overflow_sub-l c = event_above_zero c.args.input.trace.now c.args.u (c.requires.store.0, c.requires.store.1)
