use Rattle.std.proofs.Common.{◌≡◌, ◌<◌, ◌+◌, ◌∙◌, ◌∷◌, ◌↔◌, IsTrue, [], ap, subst, sym, false, ℕ, length, arith}
use Rattle.std.specs.Prelude.{get_or}
use Rattle.std.proofs.lemmas.List.{get_or_default, length-append}
use Rattle.tso_ops.specs.Settings.{first_value}
use Rattle.program_chains.specs.declared.events.LogEvent.{LogEvent}
use Rattle.program_chains.specs.Internal.Keys.{event_in, no_event}
use Rattle.value_check.proofs.FirstFacts.{tests_more}
use Rattle.value_check.proofs.tables.first_tests.Goals as goal

pub loop-event-preserved : goal.loop-event-preserved
loop-event-preserved c =
    let tests = c.loop-event.tests.items in
    let events = c.args.events.now in
    let first = c.args.first.now in
    let i = c.loop-event.event-index in
    let test = c.has_first_value.result in
    let pushed = c.in_ok-push.ensures.items in
    let here : IsTrue test ↔ ((event_in events i).value ≡ first_value first (event_in events i).a) =
    subst (λ (e : LogEvent). IsTrue test ↔ (e.value ≡ first_value first e.address)) (get_or_default events i _ no_event c.loop-event-test.true) (c.has_first_value.ensures first c.in_ok-values.ensures) in (
      ap length pushed ∙ length-append tests (test ∷ []) ∙ ap (λ n. n + 1) c.loop-event.invariant.0,
      subst (λ ts. (x : ℕ) → x < i + 1 → IsTrue (get_or ts x false) ↔ ((event_in events x).value ≡ first_value first (event_in events x).a)) (sym pushed)
          (tests_more first events tests i test c.loop-event.invariant.0 here c.loop-event.invariant.1),
    )

pub returns : goal.returns
returns c =
    let whole : c.loop-event.event-index ≡ length c.args.events.now = omega arith in
    record { sized = c.loop-event.invariant.0 ∙ whole; told = λ x below. c.loop-event.invariant.1 x (omega (arith, below, whole)) }
