use Rattle.std.proofs.Common.{◌≡◌}
use Rattle.drawn_programs.specs.Making.{after_words}
use Rattle.tso_report.proofs.campaigns.schedules.skip_words.Given as goal

abbrev pub invariant-loop : goal.invariant-loop
invariant-loop g l = g.R.Rng.stream l.words ≡ after_words l.counter (g.R.Rng.stream l.fn.words)
