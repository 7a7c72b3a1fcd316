-- Lemmas on the text of an explanation, part by part.
use Rattle.std.proofs.Common.{◌≡◌, ◌∙◌, sym, ap, ℕ, ◌+◌, ◌<◌, List, ◌∷◌, ◌++◌, length, get_or, drop, append_assoc}
use Rattle.std.specs.List.{enumerate_from, flat_map}
use Rattle.std.proofs.lemmas.List.{drop_more}
use Rattle.tso_ops.specs.Values.{TraceValue}
use Rattle.tso_evidence.specs.declared.refutations.RefutationLine.{RefutationLine}
use Rattle.decision_explanation.specs.Cases.{refutation_line_text, refutation_lines_text}
use Rattle.decision_explanation.specs.InForce.{standing_after, Standing}

-- one more number, after its place
pub entries_more : (f : ℕ × ℕ → List ℕ) (xs : List ℕ) (k x : ℕ) (old new whole : List ℕ) → k < length xs → x ≡ get_or xs k 0 → new ≡ old ++ f (k + 1, x) →
    old ++ flat_map f (enumerate_from (k + 1) (drop k xs)) ≡ whole → new ++ flat_map f (enumerate_from (k + 1 + 1) (drop (k + 1) xs)) ≡ whole
entries_more f xs k x old new whole within at added before =
    let dropped : drop k xs ≡ x ∷ drop (k + 1) xs = drop_more xs k 0 within ∙ ap (λ y. y ∷ drop (k + 1) xs) (sym at) in
    ap (λ said. said ++ flat_map f (enumerate_from (k + 1 + 1) (drop (k + 1) xs))) added
    ∙ append_assoc old (f (k + 1, x)) (flat_map f (enumerate_from (k + 1 + 1) (drop (k + 1) xs)))
    ∙ ap (λ later. old ++ flat_map f (enumerate_from (k + 1) later)) (sym dropped) ∙ before

-- one line of a refutation more
pub lines_more : (t : TraceValue) (lines : List RefutationLine) (k : ℕ) (line : RefutationLine) (here there : Standing) (old new whole : List ℕ) → k < length lines → line ≡ get_or lines k line →
    new ≡ old ++ refutation_line_text t here line → there ≡ standing_after here line → old ++ refutation_lines_text t here (drop k lines) ≡ whole → new ++ refutation_lines_text t there (drop (k + 1) lines) ≡ whole
lines_more t lines k line here there old new whole within at added is before =
    let dropped : drop k lines ≡ line ∷ drop (k + 1) lines = drop_more lines k line within ∙ ap (λ l. l ∷ drop (k + 1) lines) (sym at) in
    ap (λ s. new ++ refutation_lines_text t s (drop (k + 1) lines)) is ∙ ap (λ said. said ++ refutation_lines_text t (standing_after here line) (drop (k + 1) lines)) added
    ∙ append_assoc old (refutation_line_text t here line) (refutation_lines_text t (standing_after here line) (drop (k + 1) lines)) ∙ ap (λ later. old ++ refutation_lines_text t here later) (sym dropped) ∙ before
