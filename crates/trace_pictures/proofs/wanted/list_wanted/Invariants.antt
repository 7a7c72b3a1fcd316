use Rattle.std.proofs.Common.{◌≡◌, ◌∷◌, take}
use Rattle.std.specs.List.{flat_map}
use Rattle.std.specs.Option.{option_to_list}
use Rattle.trace_explanation.specs.Names.{source_of}
use Rattle.trace_pictures.proofs.wanted.list_wanted.Given as goal

abbrev pub invariant-loop-n : goal.invariant-loop-n
invariant-loop-n l = l.wanted.items ≡ flat_map (λ n. n ∷ option_to_list (source_of l.trace n)) (take l.n-index l.n-items)
