use Rattle.std.proofs.Common.{◌-◌, suc}
use Rattle.tso_ops.specs.Values.{rows}
use Rattle.final_states.specs.Internal.Search.{IsSearching}
use Rattle.final_states.proofs.search.reached_words.Given as goal

abbrev pub invariant-loop-words : goal.invariant-loop-words
invariant-loop-words l = IsSearching l.program l.plan.addresses.items l.limit (rows l.reached.keys) l.index

abbrev pub decreases-loop-words : goal.decreases-loop-words
decreases-loop-words l = suc l.limit - l.index
