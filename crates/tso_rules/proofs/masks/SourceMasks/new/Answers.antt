use Rattle.std.proofs.Common.{◌≤◌, arith}
use Rattle.std.proofs.lemmas.Nat.{mul-le}
use Rattle.tso_ops.proofs.EventFacts.{event_total-most}
use Rattle.tso_rules.proofs.SourceMaskFacts.{masks_none}
use Rattle.tso_rules.proofs.masks.SourceMasks.new.Goals as goal

pub overflow_mul-rows : goal.overflow_mul-rows
overflow_mul-rows c =
    let rows : c.node_count-rows.result ≤ 8001 = omega (arith, c.node_count-rows.ensures.count, event_total-most c.args.trace.now c.node_count-rows.ensures.kept) in
    let width : c.div_ceil-width.result ≤ 8001 = omega (arith, rows, c.div_ceil-width.ensures) in
    omega (arith, mul-le c.node_count-rows.result c.div_ceil-width.result 8001 8001 rows width)

pub loop-load-init : goal.loop-load-init
loop-load-init c =
    masks_none c.args.trace.now c.in_ok-words.words.items c.div_ceil-width.result c.node_count-rows.result c.node_count-rows.ensures.count (c.in_ok-words.ensures.items_if_clones_equal (λ y e. e))
