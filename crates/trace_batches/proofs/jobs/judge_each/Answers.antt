use Rattle.std.proofs.Common.{rules}
use Rattle.trace_batches.specs.Batches.{asked}
use Rattle.trace_batches.proofs.JobFacts.{judged_each}
use Rattle.trace_batches.proofs.jobs.judge_each.Goals as goal

pub returns : goal.returns
returns g c =
    let judged = judged_each (asked c.args.options.printing) c.args.jobs.now c.for_each_mut.new.s in
    search (rules, judged)
