use Rattle.std.proofs.Common.{◌≤◌, ap, subst, arith, length}
use Rattle.tso_ops.specs.Events.{event_total}
use Rattle.tso_ops.specs.Internal.Tables.{AreSources}
use Rattle.tso_ops.proofs.ReadFacts.{event_at-before_first, event_at-past, nothing_told, row_read, row_tells_load, row_tells_source}
use Rattle.tso_ops.proofs.traces.Trace.source.Goals as goal

pub returns-in_err-checked_sub-clause-load : goal.returns-in_err-checked_sub-clause-load
returns-in_err-checked_sub-clause-load c =
    nothing_told c.args.self.now c.args.n _ c.from_residual.ensures (event_at-before_first c.args.self.now c.args.n c.in_err-checked_sub.ensures)

pub returns-in_err-get-clause-load : goal.returns-in_err-get-clause-load
returns-in_err-get-clause-load c =
    let sub = c.in_ok-checked_sub.ensures in
    let are : AreSources c.args.self.now c.self.inside.sources.items = subst (λ t. AreSources t c.self.inside.sources.items) c.self.view_is c.self.invariant.sources_are in
    let past : event_total c.args.self.now ≤ c.in_ok-checked_sub.field-0 = omega (arith, c.in_err-get.ensures.lookup.3, are.rows_in, ap length c.deref.ensures.value) in
    nothing_told c.args.self.now c.args.n _ c.from_residual-in_err-get.ensures (event_at-past c.args.self.now c.args.n c.in_ok-checked_sub.field-0 sub.0 sub.1 past)

pub returns-clause-load : goal.returns-clause-load
returns-clause-load c =
    let sub = c.in_ok-checked_sub.ensures in
    let are : AreSources c.args.self.now c.self.inside.sources.items = subst (λ t. AreSources t c.self.inside.sources.items) c.self.view_is c.self.invariant.sources_are in
    let got = c.in_ok-get.ensures.lookup in
    row_tells_load c.args.self.now c.args.n c.in_ok-get.field-0.now
    (row_read c.args.self.now c.self.inside.sources.items c.deref.result.now are c.deref.ensures.value c.args.n c.in_ok-checked_sub.field-0 _ sub.0 sub.1 got.3.0 got.1)

pub returns-clause-read : goal.returns-clause-read
returns-clause-read c =
    let sub = c.in_ok-checked_sub.ensures in
    let are : AreSources c.args.self.now c.self.inside.sources.items = subst (λ t. AreSources t c.self.inside.sources.items) c.self.view_is c.self.invariant.sources_are in
    let got = c.in_ok-get.ensures.lookup in
    row_tells_source c.args.self.now c.args.n c.in_ok-get.field-0.now
    (row_read c.args.self.now c.self.inside.sources.items c.deref.result.now are c.deref.ensures.value c.args.n c.in_ok-checked_sub.field-0 _ sub.0 sub.1 got.3.0 got.1)
