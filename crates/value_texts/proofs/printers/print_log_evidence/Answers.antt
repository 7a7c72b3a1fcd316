use Rattle.std.proofs.Common.{ap}
use Rattle.value_texts.specs.Printed.{order_of, refutation_of, log_evidence_value}
use Rattle.value_texts.proofs.DistinctFacts.{spelled_as, ok_from}
use Rattle.value_texts.proofs.PrintFacts.{order-printed, refutation-printed}
use Rattle.value_texts.proofs.printers.print_log_evidence.Goals as goal

pub returns-in-Order-clause-lines : goal.returns-in-Order-clause-lines
returns-in-Order-clause-lines c =
    order-printed c.print_order.result c.args.names.now _ _ c.in-Order.numbers.items (log_evidence_value c.args.evidence.now) (ap log_evidence_value c.in-Order.is) (rw c.deref.ensures.value at c.print_order.ensures.line)

pub returns-in-Order-clause-spells : goal.returns-in-Order-clause-spells
returns-in-Order-clause-spells c =
    ok_from c.print_order.result (λ named. spelled_as c.args.names.now (order_of c.in-Order.numbers.items) (log_evidence_value c.args.evidence.now) (ap log_evidence_value c.in-Order.is) named)
    (rw c.deref.ensures.value at c.print_order.ensures.nameable)

pub returns-in-Refutation-clause-lines : goal.returns-in-Refutation-clause-lines
returns-in-Refutation-clause-lines c =
    refutation-printed c.print_lines.result c.args.names.now _ _ c.in-Refutation.lines.items (log_evidence_value c.args.evidence.now) (ap log_evidence_value c.in-Refutation.is)
    (rw c.deref-in-Refutation.ensures.value at c.print_lines.ensures.lines)

pub returns-in-Refutation-clause-spells : goal.returns-in-Refutation-clause-spells
returns-in-Refutation-clause-spells c =
    ok_from c.print_lines.result (λ named. spelled_as c.args.names.now (refutation_of c.in-Refutation.lines.items) (log_evidence_value c.args.evidence.now) (ap log_evidence_value c.in-Refutation.is) named)
    (rw c.deref-in-Refutation.ensures.value at c.print_lines.ensures.nameable)
