use Rattle.std.proofs.Common.{◌≡◌, All}
use Rattle.std.specs.List.{flat_map}
use Rattle.tso_ops.specs.Values.{ReadFits, rows}
use Rattle.unit_core.specs.Machine.{lists_from}
use Rattle.unit_core.proofs.records.list_outcomes.Given as goal

abbrev pub invariant-loop-p : goal.invariant-loop-p
invariant-loop-p l = record {
  are : rows l.lists.items ≡ lists_from 0 l.p l.steps;
  fits : All ReadFits (flat_map (λ ops. ops) (rows l.lists.items));
}
