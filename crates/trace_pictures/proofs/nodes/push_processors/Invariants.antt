use Rattle.std.proofs.Common.{◌≡◌, ◌++◌, ◌*◌, ◌^◌, ◌≤◌, string_bytes}
use Rattle.std.specs.List.{flat_map, range_with_len}
use Rattle.trace_pictures.specs.Nodes.{processor_nodes_text}
use Rattle.trace_pictures.proofs.nodes.push_processors.Given as goal

abbrev pub invariant-loop-proc : goal.invariant-loop-proc
invariant-loop-proc l =
    (string_bytes l.text ≡ string_bytes l.fn.text ++ flat_map (processor_nodes_text l.placed l.drawn l.looks l.width) (range_with_len 0 l.proc)) × (l.x ≡ l.width * l.proc)
    × (l.x ≤ 2 ^ 70 * l.proc)
