use Rattle.std.proofs.Common.{◌≡◌, ◌++◌, ◌+◌, drop, string_bytes}
use Rattle.std.specs.List.{enumerate_from, flat_map}
use Rattle.decision_explanation.specs.Orders.{entry_text}
use Rattle.decision_explanation.proofs.orders.push_entries.Given as goal

abbrev pub invariant-loop-k : goal.invariant-loop-k
invariant-loop-k l =
    string_bytes l.text ++ flat_map (λ n. entry_text l.named l.order.numbers.now n.0 n.1) (enumerate_from (l.k + 1) (drop l.k l.order.numbers.now))
    ≡ string_bytes l.fn.text ++ flat_map (λ n. entry_text l.named l.order.numbers.now n.0 n.1) (enumerate_from 1 l.order.numbers.now)
