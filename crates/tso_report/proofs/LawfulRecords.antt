-- The trace of a lawful record has an order of its model.
use Rattle.std.proofs.Common.{◌≡◌, true, length, subst, sym}
use Rattle.tso_model.specs.Axioms.{IsConsistent}
use Rattle.unit_core.specs.Records.{IsRecorded, RecordedValue}
use Rattle.embedding.specs.RunOrder.{memory_order_of}
use Rattle.embedding.proofs.RunOrderFacts.{run_order}

-- It is that of a complete run.
pub lawful_consistent : (r : RecordedValue) → IsRecorded r → r.lawful ≡ true → IsConsistent r.trace
lawful_consistent r is lawful =
    let run = is.run lawful in
    let count = length r.trace.lists in
    subst IsConsistent (sym is.trace) (memory_order_of count run.memory r.steps, run_order r.trace.setting count r.steps run)
