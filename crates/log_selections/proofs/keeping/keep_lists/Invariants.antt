use Rattle.std.proofs.Common.{◌≡◌, [], map, take}
use Rattle.tso_ops.specs.Values.{rows}
use Rattle.log_selections.specs.Cuts.{AreCutFrom}
use Rattle.log_text.specs.LogValues.{logged_outcomes}
use Rattle.log_selections.specs.Internal.Accesses.{numbers_of_lists}
use Rattle.log_selections.proofs.keeping.keep_lists.Given as goal

abbrev pub invariant-loop-p : goal.invariant-loop-p
invariant-loop-p l =
    l.fn.origins.items ≡ [] → rows l.numbers ≡ numbers_of_lists 1 (rows l.lists) →
    AreCutFrom l.addresses 1 (take l.p (map logged_outcomes (rows l.lists))) (rows l.outcomes.items) l.origins.items
