-- How a run fails.
use Rattle.issue_desk.specs.declared.faults.RunFault.{RunFault}
use Rattle.issue_desk.specs.declared.faults.RunFault.TheVariants.{OutOfMemory as RunOutOfMemory, NoThread as RunNoThread, Torn as RunTorn, OtherProgram as RunOtherProgram}
use Rattle.run_serving.specs.declared.failures.RunFailure.{RunFailure}
use Rattle.run_serving.specs.declared.failures.RunFailure.TheVariants.{Fault as ByFault, Torn, OtherProgram}
use Rattle.text_streams.specs.declared.faults.Fault.TheVariants.{OutOfMemory, NoThread}

-- the failure of a run that gave no record
abbrev pub failure_of : RunFault → RunFailure
failure_of RunOutOfMemory = ByFault OutOfMemory
failure_of RunNoThread = ByFault NoThread
failure_of (RunTorn p) = Torn p
failure_of RunOtherProgram = OtherProgram
