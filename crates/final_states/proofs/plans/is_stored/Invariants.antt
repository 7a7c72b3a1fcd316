use Rattle.std.proofs.Common.{◌≡◌, false, take}
use Rattle.std.specs.List.{flat_map, list_any}
use Rattle.final_states.specs.FinalStates.{stores_to}
use Rattle.final_states.proofs.plans.is_stored.Given as goal

abbrev pub invariant-loop-p : goal.invariant-loop-p
invariant-loop-p l = list_any (stores_to l.a) (flat_map (λ ops. ops) (take l.p l.program.lists)) ≡ false
