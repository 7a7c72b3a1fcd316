use Rattle.std.proofs.Common.{◌-◌, ◌∙◌, ap}
use Rattle.trace_batches.proofs.TallyFacts.{judged_by_counts}
use Rattle.trace_batches.proofs.tallies.Tally.judged.Goals as goal

pub returns : goal.returns
returns c = λ judgments counts.
    c.saturating_sub-2.ensures ∙ ap (λ n. n - c.args.self.now.refused) c.saturating_sub.ensures ∙ judged_by_counts c.args.self.now judgments counts
