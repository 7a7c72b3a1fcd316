use Rattle.std.proofs.Common.{◌≡◌}
use Rattle.std.specs.Prelude.{◌==◌}
use Rattle.std.specs.List.{filter, range_with_len}
use Rattle.trace_explanation.specs.Names.{is_store_where}
use Rattle.trace_explanation.proofs.unwritten.list_stores.Given as goal

abbrev pub invariant-loop-m : goal.invariant-loop-m
invariant-loop-m l = l.stores.items ≡ filter (is_store_where l.trace (λ s. s.a == l.a)) (range_with_len 1 l.m)
