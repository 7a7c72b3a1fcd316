-- Lemmas on how a run ends.
use Rattle.std.proofs.Common.{◌≡◌, ℕ, List, Ok, Err, Result, IfOk, IfErr, inl, inr}
use Rattle.std.specs.Prelude.{Option, OnErr}
use Rattle.std.specs.Io.KnownBytes.{Keeps}
use Rattle.command_line.specs.declared.options.RunOptions.{RunOptions}
use Rattle.command_line.specs.declared.options.UnitOptions.{UnitOptions}
use Rattle.text_streams.specs.WrittenTexts.{WritesWhole}
use Rattle.run_serving.specs.FailedRuns.{LeavesAtFailure}
use Rattle.run_serving.specs.Running.{IsRunText, IsRunTimesText, LeavesRunTimes}
use Rattle.run_serving.specs.declared.failures.RunFailure.{RunFailure}
use Rattle.run_serving.specs.declared.failures.RunFailure.TheVariants.{Fault as ByFault, Torn, OtherProgram}
use Rattle.request_serving.specs.Endings.{EndsRun, EndsRunTimes, Outputs, WritesFailureLine}

pub ends_run : (options : RunOptions) (programs : Option (List ℕ)) (o : Outputs) (outcome : Result ℕ RunFailure) (status : ℕ) → IfOk outcome (WritesWhole (IsRunText options programs) o.written_before o.written) →
    IfErr outcome (LeavesAtFailure (IsRunText options programs) o.written_before o.written) → IfOk outcome (λ told. (status ≡ told) × Keeps o.errors_before o.errors) →
    IfErr outcome (λ failure. WritesFailureLine o.errors_before o.errors failure × (status ≡ 4)) → EndsRun options programs o status
ends_run options programs o (Ok told) status writes leaves tells failed = inl (inl (told, writes, tells.1, tells.0))
ends_run options programs o (Err (ByFault fault)) status writes leaves tells failed = inl (inr (fault, leaves, failed))
ends_run options programs o (Err (Torn p)) status writes leaves tells failed = inr (leaves, failed.1, inl (p, failed.0))
ends_run options programs o (Err OtherProgram) status writes leaves tells failed = inr (leaves, failed.1, inr failed.0)

pub ends_run_times : (unit : UnitOptions) (times : ℕ) (programs : Option (List ℕ)) (o : Outputs) (outcome : Result ℕ RunFailure) (status : ℕ) →
    IfOk outcome (WritesWhole (IsRunTimesText unit times programs) o.written_before o.written) → OnErr outcome (LeavesRunTimes unit times programs o.written_before o.written) →
    IfOk outcome (λ told. (status ≡ told) × Keeps o.errors_before o.errors) → IfErr outcome (λ failure. WritesFailureLine o.errors_before o.errors failure × (status ≡ 4)) →
    EndsRunTimes unit times programs o status
ends_run_times unit times programs o (Ok told) status writes leaves tells failed = inl (inl (told, writes, tells.1, tells.0))
ends_run_times unit times programs o (Err (ByFault fault)) status writes leaves tells failed = inl (inr (fault, leaves, failed))
ends_run_times unit times programs o (Err (Torn p)) status writes leaves tells failed = inr (leaves, failed.1, inl (p, failed.0))
ends_run_times unit times programs o (Err OtherProgram) status writes leaves tells failed = inr (leaves, failed.1, inr failed.0)
