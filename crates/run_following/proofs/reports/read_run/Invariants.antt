use Rattle.run_following.specs.Internal.Endings.{HasFollowed}
use Rattle.run_following.proofs.reports.read_run.Given as goal

abbrev pub invariant-loop : goal.invariant-loop
invariant-loop g l = HasFollowed l.options (g.R.Read.remaining l.fn.reader) (g.R.Read.remaining l.reader) l.stream
