use Rattle.std.proofs.Common.{◌∙◌, ◌++◌, ◌∷◌, [], List, ◌<◌, ap, string_bytes, subst, sym}
use Rattle.std.specs.Global.{Vec}
use Rattle.std.proofs.lemmas.List.{append-nil, take_all}
use Rattle.tso_ops.specs.declared.ops.Outcome.{Outcome}
use Rattle.tso_ops.specs.Values.{rows}
use Rattle.outcome_reports.specs.Internal.Counting.{traces_by}
use Rattle.outcome_reports.specs.SeenTraces.{count_lines}
use Rattle.outcome_reports.specs.StateLines.{parts_of_reads, with_spaces}
use Rattle.outcome_reports.proofs.CountFacts.{line_more, read_at}
use Rattle.outcome_reports.proofs.counts.SeenCounts.print_lines.Goals as goal

pub loop-k-init : goal.loop-k-init
loop-k-init c = λ setting classes counts. sym (append-nil (string_bytes c.args.text.now))

pub loop-k-preserved : goal.loop-k-preserved
loop-k-preserved c = λ setting classes counts.
    let k = c.loop-k.k in
    let same = c.deref.ensures.value ∙ ap (λ (v : Vec (Vec Outcome)). v.items) c.index-traces-k.is in
    let reads = c.in_ok-print_reads.ensures ∙ ap (λ (lists : List (Vec Outcome)). string_bytes c.write.new.self ++ (with_spaces (parts_of_reads 0 (rows lists)) ++ 10 ∷ [])) same in
    line_more setting classes k c.index.result.now c.args.traces.now c.index-traces-k.result (string_bytes c.args.text.now) _ _ _ c.loop-k-test.true (read_at c.args.self.now.seen.items k c.index.result.now (subst (λ n. k < n) (sym c.requires) c.loop-k-test.true) c.index.ensures ∙ counts.seen k c.loop-k-test.true)
    (c.loop-k.invariant setting classes counts) c.in_ok-write.ensures.bytes reads

pub returns : goal.returns
returns c = λ setting classes counts.
    c.loop-k.invariant setting classes counts
    ∙ ap (λ (ts : List (Vec (Vec Outcome))). string_bytes c.args.text.now ++ count_lines classes 0 (traces_by setting ts)) (take_all c.loop-k.k c.args.traces.now c.loop-k-test.false)
