use Rattle.std.proofs.Common.{ap}
use Rattle.std.proofs.lemmas.Option.{slice_get-get_or}
use Rattle.tso_ops.specs.Values.{rows}
use Rattle.tso_ops.specs.Internal.MaskTables.{HasEventRow}
use Rattle.tso_ops.proofs.MaskFacts.{AreMaskRowsAmong-none, AreMaskRowsAmong-more, event_row}
use Rattle.tso_ops.proofs.masks.list_rows.Goals as goal

pub loop-k-init : goal.loop-k-init
loop-k-init c = AreMaskRowsAmong-none (HasEventRow c.args.events.now c.args.kind) (rows c.new-table.result.items) (ap rows c.new-table.ensures.items)

pub loop-k-preserved : goal.loop-k-preserved
loop-k-preserved c =
    let row = event_row c.args.events.now c.args.kind c.loop-k.k _ c.row_of.result (slice_get-get_or c.args.events.now c.loop-k.k _ c.loop-k-test.true) c.row_of.ensures.is c.row_of.ensures.all in
    AreMaskRowsAmong-more (HasEventRow c.args.events.now c.args.kind) c.loop-k.k c.row_of.result (rows c.loop-k.table.items) (rows c.mark_in_row.new.table.items) c.loop-k.invariant row.0 row.1
    c.in_ok-mark_in_row.ensures
