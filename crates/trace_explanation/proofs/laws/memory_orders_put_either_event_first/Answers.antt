use Rattle.trace_explanation.proofs.OrderFacts.{order_with_first}
use Rattle.trace_explanation.proofs.laws.memory_orders_put_either_event_first.Goals as goal

pub returns : goal.returns
returns c t u v event there apart = order_with_first t u v event there apart
