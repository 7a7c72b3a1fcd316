use Rattle.value_texts.specs.Printed.{event_token}
use Rattle.value_texts.proofs.PrintFacts.{order-line}
use Rattle.value_texts.proofs.printers.print_order.Goals as goal

pub returns-clause-line : goal.returns-clause-line
returns-clause-line c = order-line _ _ _ _ _ (event_token c.args.names.now) c.args.numbers.now c.in_ok-push_str.ensures.bytes c.in_ok-print_events.ensures.tokens c.in_ok-push_str-2.ensures.bytes
