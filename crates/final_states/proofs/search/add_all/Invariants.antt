use Rattle.std.proofs.Common.{◌⊎◌, ◌≤◌, ℕ, List, length, vec_len}
use Rattle.tso_ops.specs.Values.{rows}
use Rattle.final_states.specs.Internal.Search.{AddsSome, IsIn}
use Rattle.final_states.proofs.search.add_all.Given as goal

abbrev pub invariant-loop-words : goal.invariant-loop-words
invariant-loop-words l = record {
  some : AddsSome (rows l.initial.next.items) (rows l.initial.reached.keys) (rows l.reached.keys);
  left : (w : List ℕ) → IsIn (rows l.initial.next.items) w → IsIn (rows l.next.items) w ⊎ IsIn (rows l.reached.keys) w;
  among : (w : List ℕ) → IsIn (rows l.next.items) w → IsIn (rows l.initial.next.items) w;
  few : length l.reached.keys ≤ l.limit;
}

abbrev pub decreases-loop-words : goal.decreases-loop-words
decreases-loop-words l = vec_len l.next
