-- What a run that failed leaves, before its failure is told.
use Rattle.std.specs.Prelude.{ℕ, List, Option}
use Rattle.std.specs.Io.KnownBytes.{Keeps}
use Rattle.run_serving.specs.declared.failures.RunFailure.{RunFailure}
use Rattle.run_serving.specs.declared.failures.RunFailure.TheVariants.{Fault as ByFault}
use Rattle.text_streams.specs.declared.faults.Fault.{Fault}
use Rattle.text_streams.specs.WrittenTexts.{LeavesAtFault}

-- it holds of the fault, where there is one
abbrev pub OnFault : (Fault → Type 0) → RunFailure → Type 0
OnFault Is (ByFault fault) = Is fault
OnFault Is _ = Unit {0}

-- What a failure leaves of such a text: what the fault does, or nothing where there is no record.
abbrev pub LeavesAtFailure : (List ℕ → ℕ → Type 0) → Option (List ℕ) → Option (List ℕ) → RunFailure → Type 0
LeavesAtFailure is_text old new (ByFault fault) = LeavesAtFault is_text old new fault
LeavesAtFailure is_text old new _ = Keeps old new
