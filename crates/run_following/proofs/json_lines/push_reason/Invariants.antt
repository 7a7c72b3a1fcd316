use Rattle.std.proofs.Common.{◌≡◌, ◌++◌, drop, string_bytes}
use Rattle.run_following.specs.JsonLines.{before_facts, facts_members}
use Rattle.run_following.proofs.json_lines.push_reason.Given as goal

abbrev pub invariant-loop-k : goal.invariant-loop-k
invariant-loop-k l =
    string_bytes l.text ++ facts_members l.k (drop l.k l.refusal.facts.items)
    ≡ string_bytes l.fn.text ++ before_facts l.refusal.kind ++ facts_members 0 l.refusal.facts.items
