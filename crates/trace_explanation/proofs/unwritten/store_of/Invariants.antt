use Rattle.std.specs.Prelude.{◌==◌}
use Rattle.trace_explanation.specs.Names.{is_store_where}
use Rattle.trace_explanation.proofs.SearchFacts.{FailsUpTo}
use Rattle.trace_explanation.proofs.unwritten.store_of.Given as goal

abbrev pub invariant-loop-m : goal.invariant-loop-m
invariant-loop-m l = FailsUpTo (is_store_where l.trace (λ s. s.value == l.value)) l.m
