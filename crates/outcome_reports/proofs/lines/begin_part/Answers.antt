use Rattle.std.proofs.Common.{◌++◌, List, ℕ, ◌∷◌, [], true, subst, sym}
use Rattle.outcome_reports.specs.Internal.PartLines.{IsLineOf}
use Rattle.outcome_reports.proofs.LineFacts.{begin_later}
use Rattle.outcome_reports.proofs.lines.begin_part.Goals as goal

pub returns-in_ok-push_str : goal.returns-in_ok-push_str
returns-in_ok-push_str c = λ before part parts line.
    let later = begin_later before part _ parts c.args.begun.now c.if-begun.true line in
    subst (λ (t : List ℕ). IsLineOf before (parts ++ part ∷ []) (t ++ part) true) (sym c.in_ok-push_str.ensures.bytes) later
