use Rattle.completeness.proofs.CompleteRuns.{consistent_of_run, run_of_consistent}
use Rattle.completeness.proofs.runs.consistent_traces_have_runs.Goals as goal

pub returns-clause-run : goal.returns-clause-run
returns-clause-run c = run_of_consistent

pub returns-clause-exactly : goal.returns-clause-exactly
returns-clause-exactly c t tso trace = (run_of_consistent t tso trace, consistent_of_run t)
