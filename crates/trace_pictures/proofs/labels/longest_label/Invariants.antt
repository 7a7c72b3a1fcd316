use Rattle.std.proofs.Common.{◌≡◌, drop, length, max}
use Rattle.std.specs.List.{fold}
use Rattle.trace_pictures.specs.Labels.{event_label}
use Rattle.trace_pictures.proofs.labels.longest_label.Given as goal

abbrev pub invariant-loop-n : goal.invariant-loop-n
invariant-loop-n l =
    fold (λ longest n. max longest (length (event_label l.placed n))) l.longest (drop l.n-index l.drawn) ≡ fold (λ longest n. max longest (length (event_label l.placed n))) 0 l.drawn
