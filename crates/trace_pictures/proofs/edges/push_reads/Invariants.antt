use Rattle.std.proofs.Common.{◌≡◌, ◌++◌, string_bytes}
use Rattle.std.specs.List.{flat_map, range_with_len}
use Rattle.trace_pictures.specs.Edges.{read_edge}
use Rattle.trace_pictures.proofs.edges.push_reads.Given as goal

abbrev pub invariant-loop-n : goal.invariant-loop-n
invariant-loop-n l = string_bytes l.text ≡ string_bytes l.fn.text ++ flat_map (read_edge l.trace l.drawn l.shown) (range_with_len 1 l.n)
