use Rattle.embedding.specs.RunOrder.{memory_order_in, memory_order_of}
use Rattle.embedding.proofs.RunOrderFacts.{run_order, run_order_in}
use Rattle.embedding.proofs.laws.complete_runs_have_orders.Goals as goal

pub returns-clause-order : goal.returns-clause-order
returns-clause-order c = run_order

pub returns-clause-consistent : goal.returns-clause-consistent
returns-clause-consistent c setting count steps run = (memory_order_of count run.memory steps, run_order setting count steps run)

pub returns-clause-in_any_sizes : goal.returns-clause-in_any_sizes
returns-clause-in_any_sizes c sizes setting count steps run = (memory_order_in sizes count run.memory steps, run_order_in sizes setting count steps run)
