use Rattle.std.proofs.Common.{◌≡◌, ◌++◌, ◌-◌, length, string_bytes, take}
use Rattle.std.specs.Prelude.{reverse}
use Rattle.std.specs.List.{enumerate_from, flat_map}
use Rattle.trace_explanation.specs.Explanations.{step_text}
use Rattle.trace_explanation.proofs.cycles.push_steps.Given as goal

abbrev pub invariant-loop-done : goal.invariant-loop-done
invariant-loop-done l =
    string_bytes l.text ++ flat_map (λ n. step_text l.named.names.now l.named.trace.now l.numbered n.0 n.1) (reverse (take (length l.numbered - l.done) (enumerate_from 1 l.numbered)))
    ≡ string_bytes l.fn.text ++ flat_map (λ n. step_text l.named.names.now l.named.trace.now l.numbered n.0 n.1) (reverse (enumerate_from 1 l.numbered))
