use Rattle.std.proofs.Common.{◌≡◌, filter, take}
use Rattle.tso_ops.specs.Values.{rows}
use Rattle.final_states.specs.Internal.Words.{is_final}
use Rattle.final_states.proofs.finals.final_words.Given as goal

abbrev pub invariant-loop-words : goal.invariant-loop-words
invariant-loop-words l = rows l.finals.items ≡ filter (is_final l.program) (rows (take l.words-index l.reached.keys))
