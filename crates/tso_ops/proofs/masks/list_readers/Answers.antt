use Rattle.std.proofs.Common.{ap}
use Rattle.std.proofs.lemmas.Option.{slice_get-get_or}
use Rattle.tso_ops.specs.Values.{rows}
use Rattle.tso_ops.specs.Internal.MaskTables.{HasSourceRow}
use Rattle.tso_ops.proofs.MaskFacts.{AreMaskRowsAmong-none, AreMaskRowsAmong-more, source_row}
use Rattle.tso_ops.proofs.masks.list_readers.Goals as goal

pub loop-k-init : goal.loop-k-init
loop-k-init c = AreMaskRowsAmong-none (HasSourceRow c.args.sources.now) (rows c.new-table.result.items) (ap rows c.new-table.ensures.items)

pub loop-k-preserved : goal.loop-k-preserved
loop-k-preserved c =
    let row = source_row c.args.sources.now c.loop-k.k _ c.number_of.result (slice_get-get_or c.args.sources.now c.loop-k.k _ c.loop-k-test.true) c.number_of.ensures.is c.number_of.ensures.all in
    AreMaskRowsAmong-more (HasSourceRow c.args.sources.now) c.loop-k.k c.number_of.result (rows c.loop-k.table.items) (rows c.mark_in_row.new.table.items) c.loop-k.invariant row.0 row.1
    c.in_ok-mark_in_row.ensures
