use Rattle.std.proofs.Common.{◌≡◌, All, map}
use Rattle.std.specs.List.{flat_map, range_with_len}
use Rattle.tso_ops.specs.Values.{ReadFits, rows}
use Rattle.final_states.specs.Internal.Words.{marked_ops, outcomes_with}
use Rattle.final_states.proofs.finals.lists_of.Given as goal

abbrev pub invariant-loop-p : goal.invariant-loop-p
invariant-loop-p l = record {
  lists : rows l.lists.items ≡ map (λ p. outcomes_with (marked_ops l.program l.words p)) (range_with_len 0 l.p);
  reads : All ReadFits (flat_map (λ outcomes. outcomes) (rows l.lists.items));
}
