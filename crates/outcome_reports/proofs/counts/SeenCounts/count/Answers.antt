use Rattle.std.proofs.Common.{◌∙◌, ◌+◌, ◌<◌, ℕ, ap, length, refl, set, subst}
use Rattle.outcome_reports.specs.Internal.Counting.{IsWithin}
use Rattle.outcome_reports.proofs.CountFacts.{counts_seen_as, read_at}
use Rattle.outcome_reports.proofs.counts.SeenCounts.count.Goals as goal

pub returns-in_ok-more-in-Reached-clause-counted : goal.returns-in_ok-more-in-Reached-clause-counted
returns-in_ok-more-in-Reached-clause-counted c = λ count classes before.
    let seen = c.args.self.now.seen.items in
    let k = c.in-Reached.k in
    let inside : k < length seen = subst (IsWithin (length seen)) c.in-Reached.is c.requires in
    let more = c.in_ok-more-in-Reached.ensures.sum ∙ ap (λ (n : ℕ). n + 1) (read_at seen k c.index.result.now inside c.index.ensures) in
    counts_seen_as count classes c.args.self.now _ c.args.class k c.in-Reached.is before inside (ap (λ (n : ℕ). set seen k n) more) refl refl
