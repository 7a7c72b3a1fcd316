use Rattle.std.proofs.Common.{◌≡◌, map}
use Rattle.drawn_programs.specs.Making.{after_words, words_of}
use Rattle.tso_report.specs.DrawnSchedules.{act_of_word}
use Rattle.tso_report.proofs.campaigns.schedules.draw_acts.Given as goal

abbrev pub invariant-loop : goal.invariant-loop
invariant-loop g l = record {
  acts : l.acts.items ≡ map (act_of_word l.processors l.weight) (words_of l.counter (g.R.Rng.stream l.fn.words));
  left : g.R.Rng.stream l.words ≡ after_words l.counter (g.R.Rng.stream l.fn.words);
}
