use Rattle.std.proofs.Common.{◌≡◌, [], ◌∷◌, ◌++◌, drop}
use Rattle.std.specs.List.{zip}
use Rattle.trace_explanation.proofs.links.list_links.Given as goal

abbrev pub invariant-loop-v : goal.invariant-loop-v
invariant-loop-v l =
    l.links.items ++ zip (l.last ∷ drop l.v-index l.rest) (drop l.v-index l.rest ++ l.first ∷ []) ≡ zip (l.first ∷ l.rest) (l.rest ++ l.first ∷ [])
