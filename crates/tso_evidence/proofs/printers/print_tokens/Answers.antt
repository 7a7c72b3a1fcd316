use Rattle.tso_evidence.proofs.PrintFacts.{appended, step-printed, cycle-printed}
use Rattle.tso_evidence.proofs.printers.print_tokens.Goals as goal

pub returns-in_ok-print_pair-in-Step-clause-tokens : goal.returns-in_ok-print_pair-in-Step-clause-tokens
returns-in_ok-print_pair-in-Step-clause-tokens c =
    appended c.print_reason.result _ _ _ c.print_reason.ensures.tokens (step-printed _ _ c.args.number c.in-Step.step c.args.line.now c.in-Step.is c.in_ok-print_pair-in-Step.ensures.tokens)

pub returns-in_ok-push_str-in-Cycle-clause-tokens : goal.returns-in_ok-push_str-in-Cycle-clause-tokens
returns-in_ok-push_str-in-Cycle-clause-tokens c =
    appended c.print_events.result _ _ _ (rw c.items.ensures at c.print_events.ensures.tokens)
    (cycle-printed _ _ c.args.number c.in-Cycle.cycle c.args.line.now c.in-Cycle.is c.in_ok-push_str-in-Cycle.ensures.bytes)
