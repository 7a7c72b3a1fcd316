-- The faults of following a run.
use Rattle.std.specs.Prelude.{◌≡◌, ◌⊎◌}
use Rattle.text_streams.specs.declared.faults.Fault.{Fault}
use Rattle.text_streams.specs.declared.faults.Fault.TheVariants.{OutOfMemory, Read}

-- an allocation was refused, or the reader failed, or gave too much
abbrev pub IsRunFault : Fault → Type 0
IsRunFault fault = (fault ≡ OutOfMemory) ⊎ (fault ≡ Read)
