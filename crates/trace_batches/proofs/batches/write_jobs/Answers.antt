use Rattle.std.proofs.Common.{◌≡◌, ◌<◌, ◌+◌, ◌∙◌, ℕ, List, [], Ok, arith, get_or, length, rules, subst, sym, take}
use Rattle.std.specs.Io.KnownBytes.{Appends}
use Rattle.std.specs.Prelude.{Result}
use Rattle.std.proofs.lemmas.List.{take_more}
use Rattle.text_streams.specs.declared.faults.Fault.{Fault}
use Rattle.text_streams.specs.Streams.{AppendsPrefix}
use Rattle.trace_batches.specs.Batches.{asked, trace_result_text}
use Rattle.trace_batches.specs.declared.jobs.Job.{Job}
use Rattle.trace_batches.specs.declared.judgments.Judgment.{Judgment}
use Rattle.trace_batches.specs.declared.questions.BatchQuestion.{BatchQuestion}
use Rattle.trace_batches.specs.Internal.Progress.{AreJudged, IsJobOf, IsOutcome, WroteAll, printing_by}
use Rattle.trace_batches.proofs.JobFacts.{wrote_before, wrote_more, wrote_none, wrote_some}
use Rattle.trace_batches.proofs.batches.write_jobs.Goals as goal

-- the job of trace text i
job_at : (question : BatchQuestion) (pieces : List (List ℕ)) (jobs : List Job) (i : ℕ) (job : Job) → AreJudged question pieces jobs → i < length jobs → job ≡ get_or jobs i job → IsJobOf question (get_or pieces i []) job
job_at question pieces jobs i job judged inside at =
    let count = judged.one_each in
    subst (IsJobOf question (get_or pieces i [])) (sym at) (judged.each i job (omega (arith, count, inside)))

-- what it gave
outcome_at : (question : BatchQuestion) (pieces : List (List ℕ)) (jobs : List Job) (i : ℕ) (job : Job) (outcome : Result Judgment Fault) → AreJudged question pieces jobs → i < length jobs → job ≡ get_or jobs i job →
    job.outcome ≡ outcome → IsOutcome question (get_or pieces i []) outcome
outcome_at question pieces jobs i job outcome judged inside at is = subst (IsOutcome question (get_or pieces i [])) is (job_at question pieces jobs i job judged inside at).1

within : (question : BatchQuestion) (pieces : List (List ℕ)) (jobs : List Job) (i : ℕ) → AreJudged question pieces jobs → i < length jobs → i < length pieces
within question pieces jobs i judged inside = let count = judged.one_each in omega (arith, count, inside)

-- what holds of the bytes that the job of trace text i holds holds of the trace text
of_job : (question : BatchQuestion) (Is : List ℕ → Type 0) (pieces : List (List ℕ)) (jobs : List Job) (i : ℕ) (job : Job) (bytes : List ℕ) → AreJudged question pieces jobs → i < length jobs → job ≡ get_or jobs i job → bytes ≡ job.piece.items →
    Is bytes → Is (get_or pieces i [])
of_job question Is pieces jobs i job bytes judged inside at same is = subst Is (same ∙ (job_at question pieces jobs i job judged inside at).0) is

pub loop-job-init : goal.loop-job-init
loop-job-init g c = λ pieces judged. wrote_none (printing_by c.args.judging.now) c.args.judging.now.kept c.args.tally.now (g.W.Write.contents c.args.writer.now) (g.E.Write.contents c.args.errors.now)

pub returns-in_err-write_result-in-Ok-clause-some : goal.returns-in_err-write_result-in-Ok-clause-some
returns-in_err-write_result-in-Ok-clause-some g c =
    let inside = c.loop-job-test.true in
    let some = λ (pieces : List (List ℕ)) (judged : AreJudged (asked c.args.judging.now.options.printing) pieces c.args.jobs.now).
    wrote_some (printing_by c.args.judging.now) c.args.judging.now.kept c.args.tally.now c.loop-job.tally pieces c.loop-job.job-index c.in-Ok.judgment _ _ _ _ _ _ (within (asked c.args.judging.now.options.printing) pieces c.args.jobs.now c.loop-job.job-index judged inside)
    (c.loop-job.invariant pieces judged) (outcome_at (asked c.args.judging.now.options.printing) pieces c.args.jobs.now c.loop-job.job-index c.job-item.result (Ok c.in-Ok.judgment) judged inside c.job-item.is c.in-Ok.is)
    (of_job (asked c.args.judging.now.options.printing) (λ piece. AppendsPrefix (g.W.Write.contents c.loop-job.writer) (g.W.Write.contents c.write_result.new.writer) (trace_result_text (printing_by c.args.judging.now) (c.loop-job.tally.traces + 1) piece c.in-Ok.judgment))
    pieces c.args.jobs.now c.loop-job.job-index c.job-item.result c.deref.result.now judged inside c.job-item.is c.deref.ensures.value c.write_result.ensures.prefix) c.write_result.ensures.some in
    search (rules, some)

pub returns-in-Err-clause-some : goal.returns-in-Err-clause-some
returns-in-Err-clause-some g c = λ pieces judged.
    wrote_before (printing_by c.args.judging.now) c.args.judging.now.kept c.args.tally.now c.loop-job.tally pieces c.loop-job.job-index _ _ _ _ (c.loop-job.invariant pieces judged)

pub loop-job-preserved : goal.loop-job-preserved
loop-job-preserved g c = λ pieces judged.
    let inside = c.loop-job-test.true in
    let done = c.in_ok-write_result-in-Ok.ensures in
    let piece = get_or pieces c.loop-job.job-index [] in
    let written = of_job (asked c.args.judging.now.options.printing) (λ piece. Appends (g.W.Write.contents c.loop-job.writer) (g.W.Write.contents c.write_result.new.writer) (trace_result_text (printing_by c.args.judging.now) (c.loop-job.tally.traces + 1) piece c.in-Ok.judgment))
    pieces c.args.jobs.now c.loop-job.job-index c.job-item.result c.deref.result.now judged inside c.job-item.is c.deref.ensures.value done.whole in
    let more = wrote_more (printing_by c.args.judging.now) c.args.judging.now.kept c.args.tally.now c.loop-job.tally c.write_result.new.tally (take c.loop-job.job-index pieces) piece c.in-Ok.judgment _ _ _ _ _ _
    (c.loop-job.invariant pieces judged)
    (outcome_at (asked c.args.judging.now.options.printing) pieces c.args.jobs.now c.loop-job.job-index c.job-item.result (Ok c.in-Ok.judgment) judged inside c.job-item.is c.in-Ok.is) done.counted done.traces done.violations written done.noted in
    subst (λ ps. WroteAll (printing_by c.args.judging.now) c.args.judging.now.kept c.args.tally.now c.write_result.new.tally ps (g.W.Write.contents c.args.writer.now) (g.W.Write.contents c.write_result.new.writer)
    (g.E.Write.contents c.args.errors.now) (g.E.Write.contents c.write_result.new.errors))
    (sym (take_more pieces c.loop-job.job-index [] (within (asked c.args.judging.now.options.printing) pieces c.args.jobs.now c.loop-job.job-index judged inside))) more
