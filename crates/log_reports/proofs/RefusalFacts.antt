-- Lemmas on what is said of a refused log.
use Rattle.std.proofs.Common.{◌≡◌, ◌∙◌, ℕ, List, ◌++◌, ap, append_assoc, codes}
use Rattle.std.proofs.lemmas.List.{append-nil}
use Rattle.tso_text.specs.declared.faults.Why.{Why}
use Rattle.tso_text.specs.declared.faults.Why.TheVariants.{ProcessorRange}
use Rattle.trace_explanation.specs.Refusals.{numbered_line, refusal_explanation, refusal_sentence}
use Rattle.log_reports.specs.LogRefusals.{log_refusal_explanation, log_sentence}

-- of a refusal that traces have no rule for the line alone is said
line_alone : (text : List ℕ) (line : ℕ) → refusal_explanation text line ProcessorRange ≡ codes "\n" ++ numbered_line text line
unfolding refusal_explanation refusal_sentence
line_alone text line = ap (λ xs. codes "\n" ++ xs) (append-nil (numbered_line text line))

-- the line, and then the rule of logs
pub log_explained : (old mid new text sentence : List ℕ) (line : ℕ) (why : Why) → mid ≡ old ++ refusal_explanation text line ProcessorRange → new ≡ mid ++ sentence → sentence ≡ log_sentence why →
    new ≡ old ++ log_refusal_explanation text line why
unfolding log_refusal_explanation
log_explained old mid new text sentence line why before added is =
    added ∙ ap (λ xs. xs ++ sentence) (before ∙ ap (λ xs. old ++ xs) (line_alone text line)) ∙ append_assoc old (codes "\n" ++ numbered_line text line) sentence
    ∙ ap (λ xs. old ++ xs) (append_assoc (codes "\n") (numbered_line text line) sentence ∙ ap (λ xs. codes "\n" ++ numbered_line text line ++ xs) is)
