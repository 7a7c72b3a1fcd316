use Rattle.std.proofs.Common.{◌∙◌, [], ◌∷◌, sym, ap}
use Rattle.line_text.proofs.CutFacts.{tokens_after_some}
use Rattle.line_text.specs.Results.{◌>>=◌}
use Rattle.run_lines.specs.Arguments.{all_said, place_left}
use Rattle.run_lines.proofs.arguments.place_alone.Goals as goal

pub returns-in-Some : goal.returns-in-Some
returns-in-Some c =
    let some = tokens_after_some c.in_ok-place.rest c.in-Some.field-0 c.in-Some.is in
    let said = sym c.place_in.ensures ∙ ap place_left c.in_ok-place.was in
    sym (ap (λ r. r >>= λ p. all_said (p.0.0 ∷ p.0.1 ∷ []) p.1) said ∙ ap (all_said (c.in_ok-place.place.address ∷ c.in_ok-place.place.width ∷ [])) some.parts)
