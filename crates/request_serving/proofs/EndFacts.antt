-- Lemmas on how the program ends.
use Rattle.std.proofs.Common.{◌≡◌, ℕ, List, Ok, Err, Result, IfOk, IfErr, inl, inr}
use Rattle.std.specs.Prelude.{Option, ◌≢◌}
use Rattle.std.specs.Io.KnownBytes.{Keeps}
use Rattle.text_streams.specs.declared.faults.Fault.{Fault}
use Rattle.text_streams.specs.declared.faults.Fault.TheVariants.{NoThread}
use Rattle.text_streams.specs.WrittenTexts.{LeavesAtFault, WritesWhole}
use Rattle.request_serving.specs.Endings.{Ends, Outputs, WritesFaultLine}

-- ---- how a request ends

pub ends_as : {X : Type 0} (is_text : List ℕ → X → Type 0) (status_by : X → ℕ) (leaves : Option (List ℕ) → Option (List ℕ) → Fault → Type 0) (o : Outputs) (outcome : Result X Fault) (status : ℕ) →
    IfOk outcome (WritesWhole is_text o.written_before o.written) → IfErr outcome (leaves o.written_before o.written) → IfOk outcome (λ said. (status ≡ status_by said) × Keeps o.errors_before o.errors) →
    IfErr outcome (λ fault. WritesFaultLine o.errors_before o.errors fault × (status ≡ 4)) → Ends is_text status_by leaves o status
ends_as is_text status_by leaves o (Ok said) status writes left told faulty = inl (said, writes, told.1, told.0)
ends_as is_text status_by leaves o (Err fault) status writes left told faulty = inr (fault, left, faulty)

-- what a fault leaves, where no thread was started
pub without_thread : {X : Type 0} (is_text : List ℕ → X → Type 0) (old new : Option (List ℕ)) (outcome : Result X Fault) → IfErr outcome (λ fault. fault ≢ NoThread) →
    IfErr outcome (LeavesAtFault is_text old new) → IfErr outcome (λ fault. (fault ≢ NoThread) × LeavesAtFault is_text old new fault)
without_thread is_text old new (Ok said) other left = tt
without_thread is_text old new (Err fault) other left = (other, left)

-- a status other than that of a fault is that of a text
pub at_text : {X : Type 0} (outcome : Result X Fault) (status : ℕ) (before errors : Option (List ℕ)) (P : Type 0) → IfErr outcome (λ fault. WritesFaultLine before errors fault × (status ≡ 4))
    → IfOk outcome (λ _. P) → status ≢ 4 → P
at_text (Ok said) status before errors P faulty holds other = holds
at_text (Err fault) status before errors P faulty holds other = absurd (other faulty.1)
