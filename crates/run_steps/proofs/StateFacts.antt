-- Lemmas on the states of machines.
use Rattle.std.proofs.Common.{◌≡◌, ◌<◌, ◌∙◌, sym, ap, ℕ, List, length, map, get_or, set}
use Rattle.std.proofs.lemmas.List.{map-set, get_or-map}
use Rattle.run_steps.specs.declared.processors.Processor.{Processor}
use Rattle.run_steps.specs.Machine.{ProcessorState, MachineState, idle, processor_in, processor_state, with_processor}
use Rattle.run_steps.specs.Reads.{Memory}

module _ (memory : Memory) where
  -- the state of these processors
  abbrev pub state_with : List Processor → MachineState
  state_with processors = record { memory = memory; processors = map processor_state processors }

  -- what there is of a processor that has a place
  pub processor_at : (processors : List Processor) (p : ℕ) (x : Processor) → p < length processors → processor_in (state_with processors) p ≡ processor_state (get_or processors p x)
  processor_at processors p x within = get_or-map processor_state processors p x idle within

  -- another processor in the place of one
  pub processor_set : (processors : List Processor) (p : ℕ) (x : Processor) → state_with (set processors p x) ≡ with_processor (state_with processors) p (processor_state x)
  processor_set processors p x = ap (λ xs. record { memory = memory; processors = xs }) (map-set processor_state processors p x)

  -- a processor that was changed
  pub processor_changed : (processors : List Processor) (p : ℕ) (old new : Processor) (change : ProcessorState → ProcessorState) → p < length processors → old ≡ get_or processors p old →
      processor_state new ≡ change (processor_state old) → state_with (set processors p new) ≡ with_processor (state_with processors) p (change (processor_in (state_with processors) p))
  processor_changed processors p old new change within was is =
      processor_set processors p new
      ∙ ap (with_processor (state_with processors) p) (is ∙ ap change (ap processor_state was ∙ sym (processor_at processors p old within)))
