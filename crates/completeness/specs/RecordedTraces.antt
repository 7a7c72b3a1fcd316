-- Traces of complete runs.
use Rattle.std.specs.Prelude.{◌≡◌, List}
use Rattle.tso_ops.specs.Values.{TraceValue}
use Rattle.tso_ops.specs.Events.{processor_count}
use Rattle.unit_core.specs.declared.steps.Step.{Step}
use Rattle.unit_core.specs.Machine.{IsCompleteRun, trace_of}

-- some complete run of the trace's setting, and of as many processors, has this trace
abbrev pub IsTraceOfRun : TraceValue → Type 0
IsTraceOfRun t = (steps : List Step) × IsCompleteRun t.setting (processor_count t) steps × (trace_of t.setting (processor_count t) steps ≡ t)
