use Rattle.std.proofs.Common.{ℕ, List, Result, Ok, Err}
use Rattle.std.specs.Prelude.{MatchResult, OnOk}
use Rattle.log_text.specs.LogValues.{log_operations, log_value}
use Rattle.tso_ops.specs.Values.{TraceValue}
use Rattle.tso_model.specs.Axioms.{IsConsistent, IsModelOrder}
use Rattle.order_check.specs.declared.faults.OrderFault.{OrderFault}
use Rattle.order_check.specs.Refusals.{IsOrderRefusal}
use Rattle.order_check.proofs.RefusalFacts.{if_ok, told_accepted}
use Rattle.log_order_check.proofs.checks.check_log_order.Goals as goal

-- a list that is an order shows that there is one
told_consistent : (t : TraceValue) (order : List ℕ) (said : Result Unit OrderFault) → MatchResult said (λ _. IsModelOrder t order) (IsOrderRefusal t order) → OnOk said (IsConsistent t)
told_consistent t order (Ok unit) told = (order, told)
told_consistent t order (Err fault) told = tt

pub returns-clause-consistent : goal.returns-clause-consistent
returns-clause-consistent c = if_ok _ _ (λ said told. told_consistent (log_operations (log_value c.args.log.now)) c.args.order.now said told) c.judge.result c.judge.ensures

pub returns-clause-accepted : goal.returns-clause-accepted
returns-clause-accepted c = if_ok _ _ (λ said told. told_accepted (log_operations (log_value c.args.log.now)) c.args.order.now said told) c.judge.result c.judge.ensures
