use Rattle.unit_runs.proofs.Runs.{exactly, same_after}
use Rattle.unit_runs.proofs.Starts.{all_located, start_preset}
use Rattle.unit_runs.proofs.laws.unit_runs_are_runs.Goals as goal

pub returns-clause-exactly : goal.returns-clause-exactly
returns-clause-exactly c = exactly

pub returns-clause-states : goal.returns-clause-states
returns-clause-states c = same_after

pub returns-clause-begins : goal.returns-clause-begins
returns-clause-begins c places memory located words = start_preset places located memory words

pub returns-clause-located : goal.returns-clause-located
returns-clause-located c = all_located
