use Rattle.std.proofs.Common.{◌∙◌, ap, length, sym}
use Rattle.trace_batches.specs.Batches.{asked}
use Rattle.trace_batches.proofs.JobFacts.{judged_all}
use Rattle.trace_batches.proofs.jobs.judge_all.Goals as goal

pub returns : goal.returns
returns g c =
    let jobs = c.in_ok-jobs.jobs in
    let lent = c.deref_mut.ensures in
    judged_all (asked c.args.options.printing) c.args.pieces.items jobs.items c.judge_each.new.jobs jobs.len (sym lent.len ∙ ap length lent.value) c.in_ok-jobs.ensures
    (rw (← lent.value) c.judge_each.ensures)
