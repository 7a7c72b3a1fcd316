use Rattle.std.proofs.Common.{◌≡◌, All, map, take}
use Rattle.tso_ops.specs.Values.{ReadFits, outcomes_in_file_order, rows}
use Rattle.final_states.specs.FinalStates.{state_of}
use Rattle.final_states.specs.Internal.Words.{state_with}
use Rattle.final_states.proofs.finals.states_of.Given as goal

abbrev pub invariant-loop-words : goal.invariant-loop-words
invariant-loop-words l = record {
  states : map (state_of l.program) l.states.items ≡ map (state_with l.program l.plan.addresses.items) (rows (take l.words-index l.finals));
  reads : All (λ s. All ReadFits (outcomes_in_file_order (state_of l.program s).trace)) l.states.items;
}
