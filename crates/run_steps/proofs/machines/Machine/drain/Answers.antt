use Rattle.std.proofs.Common.{◌≡◌, ◌∙◌, ◌<◌, Some, refl, length, slice_get, sym, subst, ap}
use Rattle.std.specs.List.{remove}
use Rattle.std.specs.Option.{option_map_or}
use Rattle.std.proofs.lemmas.Option.{slice_get_read}
use Rattle.std.proofs.lemmas.Result.{on_ok_weaker}
use Rattle.run_steps.specs.Machine.{processor_state, reaching, state_of_machine, waits_of, with_waits}
use Rattle.run_steps.specs.Reads.{memory_of_cells}
use Rattle.run_steps.proofs.StateFacts.{processor_at, processor_changed}
use Rattle.run_steps.proofs.machines.Machine.drain.Goals as goal

pub returns-clause-state : goal.returns-clause-state
returns-clause-state c =
    let memory = memory_of_cells c.args.self.now.memory in
    let processors = c.args.self.now.processors.items in
    let s = state_of_machine c.args.self.now in
    let line = c.args.line in
    let p = c.args.p in
    let k = c.args.number in
    let old = c.index_mut.result.now in
    let new = record old { waiting = c.remove-store.new.self } in
    let waits : waits_of s p ≡ old.waiting.items = ap (λ x. x.waits) (processor_at memory processors p old c.requires.admitted ∙ ap processor_state (sym c.index_mut.ensures.value)) in
    let left =
    processor_changed memory processors p old new (λ x. record x { waits = remove x.waits k }) c.requires.admitted c.index_mut.ensures.value
    (ap (λ ws. record { waits = ws; stbar = old.stbar; reserved = old.reservation }) c.remove-store.ensures.items) in
    let at : slice_get (waits_of s p) k ≡ Some c.remove-store.result =
    ap (λ ws. slice_get ws k) waits ∙ slice_get_read old.waiting.items (length old.waiting.items) k c.remove-store.result refl (subst (λ ws. k < length ws) waits c.requires.waits) c.remove-store.ensures.value in
    on_ok_weaker c.reach.result
    (λ is. is ∙ ap (reaching line p c.remove-store.result) left ∙ sym (ap (λ o. option_map_or (λ w. reaching line p w (with_waits s p (remove (waits_of s p) k))) o s) at))
    c.reach.ensures.state
