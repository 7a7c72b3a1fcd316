use Rattle.std.proofs.Common.{◌∙◌, ◌++◌, ◌∷◌, [], List, ℕ, ap, append_assoc}
use Rattle.outcome_reports.proofs.LineFacts.{line_from}
use Rattle.outcome_reports.proofs.lines.print_reads.Goals as goal

pub returns : goal.returns
returns c = c.in_ok-push_str.ensures.bytes ∙ ap (λ (t : List ℕ). t ++ 10 ∷ []) (line_from _ _ _ _ c.in_ok-push_lists.ensures) ∙ append_assoc _ _ (10 ∷ [])
