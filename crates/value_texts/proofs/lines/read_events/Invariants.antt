use Rattle.std.proofs.Common.{◌≡◌}
use Rattle.line_text.specs.Lines.{tokens_after}
use Rattle.tso_cert.proofs.TokenFacts.{left_length}
use Rattle.value_texts.specs.Internal.LineValues.{events_said}
use Rattle.value_texts.proofs.LineFacts.{events_after}
use Rattle.value_texts.proofs.lines.read_events.Given as goal

abbrev pub invariant-tokens : goal.invariant-tokens
invariant-tokens l = events_said l.names (tokens_after l.tokens) ≡ events_after l.numbers.items (events_said l.names (tokens_after l.left))

abbrev pub decreases-tokens : goal.decreases-tokens
decreases-tokens l = left_length l.left
