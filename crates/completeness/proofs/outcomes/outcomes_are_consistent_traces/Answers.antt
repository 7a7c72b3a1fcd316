use Rattle.completeness.proofs.RunTraces.{exactly_consistent, run_is_consistent}
use Rattle.completeness.proofs.outcomes.outcomes_are_consistent_traces.Goals as goal

pub returns-clause-consistent : goal.returns-clause-consistent
returns-clause-consistent c = run_is_consistent

pub returns-clause-exactly : goal.returns-clause-exactly
returns-clause-exactly c program t tso trace same = (run_is_consistent program t, exactly_consistent program t tso trace same)
