use Rattle.tso_cert.proofs.PrintFacts.{inferred-printed}
use Rattle.tso_cert.proofs.parts.print_reason.Goals as goal

pub returns-in_ok-print_event-in-Inferred-clause-tokens : goal.returns-in_ok-print_event-in-Inferred-clause-tokens
returns-in_ok-print_event-in-Inferred-clause-tokens c =
    inferred-printed c.print_events.result _ _ _ _ c.in-Inferred.rule c.in-Inferred.load c.in-Inferred.path c.args.reason.now c.in-Inferred.is
    (rw c.name-in-Inferred.ensures at c.in_ok-write-in-Inferred.ensures.bytes) c.in_ok-print_event-in-Inferred.ensures.token (rw c.items.ensures at c.print_events.ensures.tokens)
