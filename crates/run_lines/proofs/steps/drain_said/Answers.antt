use Rattle.std.proofs.Common.{◌∙◌, sym, ap}
use Rattle.line_text.specs.Lines.{tokens_after}
use Rattle.run_lines.proofs.DrainFacts.{drain_more}
use Rattle.run_lines.proofs.steps.drain_said.Goals as goal

pub returns-in-Some-1₀-clause-numbers : goal.returns-in-Some-1₀-clause-numbers
returns-in-Some-1₀-clause-numbers c =
    c.drain_of_value.ensures.numbers
    ∙ sym (drain_more c.args.before c.next_token.result.0.now c.next_token.result.1 c.in-Some-1₀.field-0 (tokens_after c.args.parts) (ap tokens_after c.in-Some.is ∙ c.next_token.ensures.tokens) c.in-Some-1₀.is)
