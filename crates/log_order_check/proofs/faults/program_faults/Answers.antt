use Rattle.std.proofs.Common.{◌≡◌, ◌∙◌, ◌<◌, ◌+◌, ◌∷◌, [], refl, ap, subst, sym, ℕ, suc, None, length, Some, get_or, slice_index, arith}
use Rattle.std.specs.Prelude.{unwrap_or, nat_eq}
use Rattle.std.specs.HashMap.{Updates}
use Rattle.std.proofs.lemmas.List.{get_or_default, length-append}
use Rattle.tso_ops.specs.Values.{TraceValue}
use Rattle.tso_ops.specs.Events.{event_at}
use Rattle.program_chains.specs.declared.events.LogEvent.{LogEvent}
use Rattle.program_chains.specs.LogEvents.{as_trace_event, AreEventsOf}
use Rattle.program_chains.specs.Internal.Keys.{no_event}
use Rattle.program_chains.proofs.EventFacts.{at_number}
use Rattle.log_order_check.specs.Internal.Passed.{IsPassed, none_passed, processor_in}
use Rattle.log_order_check.specs.Internal.Most.{IsMost}
use Rattle.log_order_check.specs.Internal.Tables.{IsOwnStore, IsProgramFault}
use Rattle.log_order_check.proofs.OwnFacts.{each_more}
use Rattle.log_order_check.proofs.ProcessorFacts.{passed_first, processors_next}
use Rattle.log_order_check.proofs.faults.program_faults.Goals as goal

pub loop-x-init : goal.loop-x-init
loop-x-init c = record {
  sized = ap length c.in_ok-faults.ensures.items;
  processors = λ t are p.
      let empty = c.new-processors.ensures.empty in
      let none : processor_in c.new-processors.result p ≡ none_passed = rw empty refl in
      subst (IsPassed t c.args.places.now 0 p) (sym none) (passed_first t c.args.places.now p);
  each = λ t order model are places own y below. absurd (omega arith);
}

pub loop-x-preserved : goal.loop-x-preserved
loop-x-preserved c =
    let events = c.args.events.now in
    let places = c.args.places.now in
    let x = c.loop-x.x in
    let event : LogEvent = get_or events x no_event in
    let processors = c.loop-x.processors in
    let next : suc x ≡ x + 1 = omega arith in
    let within = c.loop-x-test.true in
    let pushed = c.in_ok-push.ensures.items in
    let read = get_or_default events x _ no_event within in
    let is_place : c.place_in-place.result ≡ slice_index places (suc x) = c.place_in-place.ensures ∙ ap (slice_index places) (sym next) in
    let known : c.unwrap_or-before.result ≡ processor_in processors event.processor =
    c.unwrap_or-before.ensures ∙ ap (λ o. unwrap_or o none_passed) (c.copied.ensures ∙ c.get.ensures.value) ∙ ap (λ (y : LogEvent). processor_in processors y.processor) read in
    let before = c.unwrap_or-before.result in
    let after = c.with-after.result in
    let at_of = λ (t : TraceValue) (are : AreEventsOf t events). subst (λ (y : LogEvent). event_at t (suc x) ≡ Some (as_trace_event y)) (sym read) (at_number t events are x within) in
    let before_is = λ (t : TraceValue) (are : AreEventsOf t events).
    subst (λ (y : LogEvent). IsPassed t places x y.processor before) (sym read) (subst (IsPassed t places x event.processor) (sym known) (c.loop-x.invariant.processors t are event.processor)) in
    let after_is = λ (t : TraceValue) (are : AreEventsOf t events). c.with-after.ensures t places x (at_of t are) is_place (before_is t are) in
    record {
      sized = ap length pushed ∙ length-append c.loop-x.faults.items (c.first_fault.result ∷ []) ∙ ap (λ n. n + 1) c.loop-x.invariant.sized;
      processors = λ t are p.
          let updates : Updates nat_eq processors c.insert.new.self event.processor (Some after) =
          subst (λ (y : LogEvent). Updates nat_eq processors c.insert.new.self y.processor (Some after)) read c.in_ok-insert.ensures.updates in
          subst (λ n. IsPassed t places n p (processor_in c.insert.new.self p)) next
          (processors_next t places x (as_trace_event event) (at_number t events are x within) processors c.insert.new.self after updates
          (subst (λ (y : LogEvent). IsPassed t places (suc x) y.processor after) read (after_is t are).0) (c.loop-x.invariant.processors t are) p);
      each = λ t order model are places_are own.
          let bounds = c.bounds_of-bounds.ensures t places x _ model (at_of t are) (before_is t are) (after_is t are).0 (after_is t are).1 (after_is t are).2
          (subst (IsMost (IsOwnStore t (suc x)) places) (sym c.place_in.ensures) (own.each x within)) in
          let here : IsProgramFault t order (suc x) c.first_fault.result = c.first_fault.ensures t order places (suc x) (at_of t are) places_are is_place bounds in
          subst (λ xs. (y : ℕ) → y < x + 1 → IsProgramFault t order (suc y) (get_or xs y None)) (sym pushed)
          (each_more (λ y fault. IsProgramFault t order (suc y) fault) c.loop-x.faults.items None c.first_fault.result x c.loop-x.invariant.sized here
          (c.loop-x.invariant.each t order model are places_are own));
    }
