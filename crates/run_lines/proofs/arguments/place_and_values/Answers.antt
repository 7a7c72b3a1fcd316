use Rattle.std.proofs.Common.{◌∙◌, [], ◌∷◌, sym, ap}
use Rattle.line_text.proofs.CutFacts.{tokens_after_some}
use Rattle.line_text.specs.Results.{◌>>=◌}
use Rattle.run_lines.specs.Arguments.{all_said, place_left, value_left, value_said}
use Rattle.run_lines.proofs.arguments.place_and_values.Goals as goal

pub returns-in-Some : goal.returns-in-Some
returns-in-Some c =
    let place = c.in_ok-place.place in
    let first = c.in_ok-first.first in
    let some = tokens_after_some c.in_ok-second.rest c.in-Some.field-0 c.in-Some.is in
    let said = sym c.place_in.ensures ∙ ap place_left c.in_ok-place.was in
    let one = sym c.value_in.ensures ∙ ap value_left c.in_ok-first.was in
    let two = sym c.value_in-2.ensures ∙ ap value_left c.in_ok-second.was in
    sym (ap (λ r. r >>= λ p. value_said p.0.1 p.1 >>= λ v. value_said p.0.1 v.1 >>= λ w. all_said (p.0.0 ∷ p.0.1 ∷ v.0 ∷ w.0 ∷ []) w.1) said
    ∙ ap (λ r. r >>= λ v. value_said place.width v.1 >>= λ w. all_said (place.address ∷ place.width ∷ v.0 ∷ w.0 ∷ []) w.1) one
    ∙ ap (λ r. r >>= λ w. all_said (place.address ∷ place.width ∷ first ∷ w.0 ∷ []) w.1) two ∙ ap (all_said (place.address ∷ place.width ∷ first ∷ c.in_ok-second.second ∷ [])) some.parts)
