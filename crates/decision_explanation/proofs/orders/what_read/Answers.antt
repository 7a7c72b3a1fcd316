use Rattle.std.proofs.Common.{◌∙◌, ap, arith}
use Rattle.trace_explanation.specs.Names.{source_of}
use Rattle.decision_explanation.proofs.PlaceFacts.{source_listed}
use Rattle.decision_explanation.proofs.orders.what_read.Goals as goal

pub is_forwarded-requires-clause-l : goal.is_forwarded-requires-clause-l
is_forwarded-requires-clause-l c =
    let listed = source_listed c.args.named.now c.args.l c.in-Some.s (c.in-Some.ensures ∙ ap (λ t. source_of t c.args.l) c.trace.ensures) in
    omega (arith, listed.0, c.requires.counted)

pub is_forwarded-requires-clause-s : goal.is_forwarded-requires-clause-s
is_forwarded-requires-clause-s c =
    let listed = source_listed c.args.named.now c.args.l c.in-Some.s (c.in-Some.ensures ∙ ap (λ t. source_of t c.args.l) c.trace.ensures) in
    omega (arith, listed.1, c.requires.counted)
