use Rattle.std.proofs.Common.{◌≡◌, ◌∙◌, [], refl, set, sym, ap}
use Rattle.std.proofs.lemmas.List.{length-set}
use Rattle.run_steps.specs.Machine.{processor_state, reaching_all, state_of_machine, waits_of}
use Rattle.run_steps.specs.Reads.{memory_of_cells}
use Rattle.run_steps.proofs.StateFacts.{processor_at, processor_changed, state_with}
use Rattle.run_steps.proofs.machines.Machine.empty_buffer.Goals as goal

pub loop-store-init : goal.loop-store-init
loop-store-init c =
    let memory = memory_of_cells c.args.self.now.memory in
    let processors = c.args.self.now.processors.items in
    let p = c.args.p in
    let old = c.index_mut.result.now in
    let new = record old { waiting = c.replace-waiting.new.dest } in
    let waits : old.waiting.items ≡ waits_of (state_of_machine c.args.self.now) p =
    sym (ap (λ x. x.waits) (processor_at memory processors p old c.requires ∙ ap processor_state (sym c.index_mut.ensures.value))) in
    let none : c.replace-waiting.new.dest.items ≡ [] = ap (λ v. v.items) c.replace-waiting.ensures.after ∙ c.new.ensures.items in
    let state =
    processor_changed memory processors p old new (λ x. record x { waits = [] }) c.requires c.index_mut.ensures.value (ap (λ ws. record { waits = ws; stbar = old.stbar; reserved = old.reservation }) none) in
    record {
      state =
          ap (λ ws. reaching_all c.args.line p ws (state_with memory (set processors p new))) (c.deref-store-items.ensures.value ∙ ap (λ v. v.items) c.replace-waiting.ensures.value ∙ waits)
          ∙ ap (reaching_all c.args.line p (waits_of (state_of_machine c.args.self.now) p)) state;
      kept = length-set processors p new;
      model = refl;
    }
