use Rattle.std.proofs.Common.{[], ◌∷◌, string_bytes}
use Rattle.tso_cert.proofs.PrintFacts.{pushed-last}
use Rattle.tso_evidence.proofs.PrintFacts.{appended, unwritten-printed, order-printed, refutation-printed}
use Rattle.tso_evidence.proofs.printers.print_evidence.Goals as goal

pub returns-in_ok-print_event-in-Unwritten-clause-lines : goal.returns-in_ok-print_event-in-Unwritten-clause-lines
returns-in_ok-print_event-in-Unwritten-clause-lines c =
    pushed-last c.push_str-in-Unwritten.result _ (string_bytes c.print_event.new.text) (10 ∷ []) _ c.push_str-in-Unwritten.ensures.bytes
    (unwritten-printed _ _ _ _ c.args.evidence.now c.in-Unwritten.is c.in_ok-push_str-in-Unwritten.ensures.bytes c.in_ok-print_event-in-Unwritten.ensures.token)

pub returns-in_ok-print_events-in-Order-clause-lines : goal.returns-in_ok-print_events-in-Order-clause-lines
returns-in_ok-print_events-in-Order-clause-lines c =
    pushed-last c.push_str-in-Order-2.result _ (string_bytes c.print_events.new.text) (10 ∷ []) _ c.push_str-in-Order-2.ensures.bytes
    (order-printed _ _ _ c.in-Order.numbers c.args.evidence.now c.in-Order.is c.in_ok-push_str-in-Order.ensures.bytes (rw c.items.ensures at c.in_ok-print_events-in-Order.ensures.tokens))

pub returns-in-Refutation-clause-lines : goal.returns-in-Refutation-clause-lines
returns-in-Refutation-clause-lines c =
    appended c.print_lines.result _ _ _ (rw c.items-in-Refutation.ensures at c.print_lines.ensures.lines) (refutation-printed _ c.in-Refutation.lines c.args.evidence.now c.in-Refutation.is)
