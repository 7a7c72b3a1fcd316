use Rattle.std.proofs.Common.{◌∙◌, List, ℕ, ap}
use Rattle.std.specs.Prelude.{nat_lt}
use Rattle.std.specs.List.{count_by}
use Rattle.outcome_reports.proofs.CountFacts.{seen_count_from}
use Rattle.outcome_reports.proofs.counts.SeenCounts.seen_traces.Goals as goal

pub returns : goal.returns
returns c = λ classes counts.
    c.count_some.ensures ∙ ap (λ (cs : List ℕ). count_by (λ count. nat_lt 0 count) cs) c.deref.ensures.value ∙ seen_count_from c.args.self.now.seen.items classes counts.seen
