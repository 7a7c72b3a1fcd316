use Rattle.std.proofs.Common.{[], ◌∷◌, string_bytes}
use Rattle.tso_cert.proofs.PrintFacts.{pushed-last, unwritten-printed, cycle-printed}
use Rattle.tso_cert.proofs.printers.print_lines.Goals as goal

pub returns-in_ok-print_event-in-Unwritten-clause-lines : goal.returns-in_ok-print_event-in-Unwritten-clause-lines
returns-in_ok-print_event-in-Unwritten-clause-lines c =
    pushed-last c.push_str-in-Unwritten.result _ (string_bytes c.print_event.new.text) (10 ∷ []) _ c.push_str-in-Unwritten.ensures.bytes
    (unwritten-printed _ _ _ _ c.args.certificate.now c.in-Unwritten.is c.in_ok-push_str-in-Unwritten.ensures.bytes c.in_ok-print_event-in-Unwritten.ensures.token)

pub returns-in_ok-print_events-in-Cycle-clause-lines : goal.returns-in_ok-print_events-in-Cycle-clause-lines
returns-in_ok-print_events-in-Cycle-clause-lines c =
    pushed-last c.push_str-in-Cycle-2.result _ (string_bytes c.print_events.new.text) (10 ∷ []) _ c.push_str-in-Cycle-2.ensures.bytes
    (cycle-printed _ _ _ _ c.in-Cycle.steps c.in-Cycle.cycle c.args.certificate.now c.in-Cycle.is (rw c.items.ensures at c.in_ok-print_steps-in-Cycle.ensures.lines) c.in_ok-push_str-in-Cycle.ensures.bytes
    (rw c.items-in-Cycle.ensures at c.in_ok-print_events-in-Cycle.ensures.tokens))
