use Rattle.std.proofs.Common.{refl}
use Rattle.outcome_reports.proofs.CountFacts.{no_counts}
use Rattle.outcome_reports.proofs.counts.SeenCounts.new.Goals as goal

pub returns : goal.returns
returns c = no_counts c.args.count _ (c.in_ok-vec.ensures.items_if_clones_equal (λ y e. e)) refl refl
