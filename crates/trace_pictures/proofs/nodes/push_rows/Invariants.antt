use Rattle.std.proofs.Common.{◌≡◌, ◌++◌, ◌+◌, ◌*◌, ◌%◌, ◌≤◌, drop, string_bytes}
use Rattle.std.specs.Prelude.{codes}
use Rattle.std.specs.Fmt.{decimal}
use Rattle.trace_pictures.specs.Nodes.{rows_text}
use Rattle.trace_pictures.proofs.nodes.push_rows.Given as goal

abbrev pub invariant-loop-row : goal.invariant-loop-row
invariant-loop-row l =
    (string_bytes l.text ++ rows_text l.placed l.looks l.column.proc l.column.x l.y (string_bytes l.above) (drop l.row-index l.rows)
    ≡ string_bytes l.fn.text ++ rows_text l.placed l.looks l.column.proc l.column.x (70 + 26 * (l.column.proc % 2)) (codes "p" ++ decimal l.column.proc) l.rows)
    × (l.y ≤ 96 + 532 * l.row-index)
