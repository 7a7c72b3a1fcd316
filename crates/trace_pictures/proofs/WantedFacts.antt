-- Lemmas on the operations of events.
use Rattle.std.proofs.Common.{◌≡◌, ℕ, zero, suc, ◌≤◌, length, Some, arith}
use Rattle.std.proofs.lemmas.Option.{slice_get_within}
use Rattle.tso_ops.specs.declared.operations.EventOperation.{EventOperation}
use Rattle.tso_ops.specs.Operations.{operation_at, operations_of}
use Rattle.tso_ops.specs.Values.{TraceValue}

-- an event that has an operation is one of as many
pub operation-near : (t : TraceValue) (n : ℕ) (o : EventOperation) → operation_at t n ≡ Some o → n ≤ length (operations_of t)
operation-near t zero o at = absurd cc
operation-near t (suc k) o at = let within = slice_get_within (operations_of t) k o at in omega (arith, within)
