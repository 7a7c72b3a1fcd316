-- Lemmas on what stands after the keyword of a drain.
use Rattle.std.proofs.Common.{◌≡◌, ◌∙◌, sym, ap, ℕ, List, ◌∷◌, Option, Some, Bor}
use Rattle.line_text.specs.Lines.{tokens_after}
use Rattle.line_text.proofs.CutFacts.{tokens_after_some}
use Rattle.run_lines.specs.declared.arguments.Widths.{Widths}
use Rattle.run_lines.specs.Arguments.{place_and_value}
use Rattle.run_lines.specs.Lines.{drain_said}

-- where two parts stand, they are a place and a value
pub drain_more : (before : Widths) (part : List ℕ) (rest : Option (Bor (List ℕ))) (r : Bor (List ℕ)) (parts : List (List ℕ)) → parts ≡ part ∷ tokens_after rest → rest ≡ Some r →
    drain_said before parts ≡ place_and_value before parts
drain_more before part rest r parts whole is =
    let some = tokens_after_some rest r is in
    let two = whole ∙ ap (λ ps. part ∷ ps) some.parts in
    ap (drain_said before) two ∙ sym (ap (place_and_value before) two)
