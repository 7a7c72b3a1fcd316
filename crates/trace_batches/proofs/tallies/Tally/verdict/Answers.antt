use Rattle.trace_batches.proofs.TallyFacts.{verdict_enough, verdict_few, verdict_refused, verdict_undecided, verdict_violation}
use Rattle.trace_batches.proofs.tallies.Tally.verdict.Goals as goal

pub returns-then-self-gt0 : goal.returns-then-self-gt0
returns-then-self-gt0 c = verdict_violation c.args.required c.args.self.now c.if-self-gt0.true

pub returns-then-self-gt0-2 : goal.returns-then-self-gt0-2
returns-then-self-gt0-2 c = λ judgments counts. verdict_refused c.args.required c.args.self.now c.if-self-gt0.false judgments counts c.if-self-gt0-2.true

pub returns-then-self-gt0-3 : goal.returns-then-self-gt0-3
returns-then-self-gt0-3 c = λ judgments counts. verdict_undecided c.args.required c.args.self.now c.if-self-gt0.false judgments counts c.if-self-gt0-2.false c.if-self-gt0-3.true

pub returns-then-are_too_few : goal.returns-then-are_too_few
returns-then-are_too_few c = λ judgments counts.
    verdict_few c.args.required c.args.self.now c.if-self-gt0.false judgments counts c.if-self-gt0-2.false c.if-self-gt0-3.false c.judged.result (c.judged.ensures judgments counts)
    c.are_too_few.result c.are_too_few.ensures c.if-are_too_few.true

pub returns-else-are_too_few : goal.returns-else-are_too_few
returns-else-are_too_few c = λ judgments counts.
    verdict_enough c.args.required c.args.self.now c.if-self-gt0.false judgments counts c.if-self-gt0-2.false c.if-self-gt0-3.false c.judged.result (c.judged.ensures judgments counts)
    c.are_too_few.result c.are_too_few.ensures c.if-are_too_few.false
