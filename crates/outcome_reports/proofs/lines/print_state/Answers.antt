use Rattle.std.proofs.Common.{◌∙◌, ◌++◌, ◌∷◌, [], List, ℕ, ap, ap₂, append_assoc, map, string_bytes}
use Rattle.tso_ops.specs.declared.ops.Outcome.{Outcome}
use Rattle.std.specs.Global.{Vec}
use Rattle.tso_ops.specs.Values.{rows}
use Rattle.outcome_reports.specs.StateLines.{last_part, parts_of_reads, with_spaces}
use Rattle.outcome_reports.proofs.LineFacts.{gets_both, line_from}
use Rattle.outcome_reports.proofs.lines.print_state.Goals as goal

pub returns : goal.returns
returns c = λ program.
    let line = line_from _ _ _ _ (gets_both _ _ _ _ _ _ _ _ c.in_ok-push_lists.ensures c.in_ok-push_entries.ensures) in
    let same =
    ap₂ (λ (lists : List (Vec Outcome)) (entries : List (ℕ × ℕ)). with_spaces (parts_of_reads 0 (rows lists) ++ map last_part entries)) c.deref.ensures.value c.deref-2.ensures.value in
    c.in_ok-push_str.ensures.bytes ∙ ap (λ (t : List ℕ). t ++ 10 ∷ []) (line ∙ ap (λ (t : List ℕ). string_bytes c.args.text.now ++ t) same) ∙ append_assoc _ _ (10 ∷ [])
