use Rattle.trace_batches.proofs.TallyFacts.{counts_both}
use Rattle.trace_batches.proofs.tallies.Tally.add.Goals as goal

pub returns-clause-added : goal.returns-clause-added
returns-clause-added c = λ judgments others.
    counts_both c.args.self.now c.args.more.now _ judgments others
    (record {
      traces = c.in_ok-self.ensures.sum;
      consistent = c.in_ok-self-2.ensures.sum;
      violations = c.in_ok-self-3.ensures.sum;
      undecided = c.in_ok-self-4.ensures.sum;
      refused = c.in_ok-self-5.ensures.sum;
    })
