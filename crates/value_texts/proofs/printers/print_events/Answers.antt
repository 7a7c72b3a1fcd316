use Rattle.std.proofs.Common.{◌∷◌}
use Rattle.std.proofs.lemmas.List.{get_or_default}
use Rattle.value_texts.specs.Printed.{event_token}
use Rattle.value_texts.specs.Internal.Names.{IsNameable}
use Rattle.value_texts.proofs.PrintFacts.{bytes-printed}
use Rattle.value_texts.proofs.printers.print_events.Goals as goal

pub loop-number-preserved : goal.loop-number-preserved
loop-number-preserved c =
    let names = c.args.names.now in
    bytes-printed (λ n. 32 ∷ event_token names n) (IsNameable names) _ _ _ c.args.numbers.now c.loop-number.number-index _ c.loop-number-test.true
    (get_or_default c.args.numbers.now c.loop-number.number-index _ _ c.loop-number-test.true) c.loop-number.invariant c.in_ok-print_event.ensures.token c.in_ok-print_event.ensures.nameable
