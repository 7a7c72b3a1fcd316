use Rattle.std.proofs.lemmas.List.{get_or_default}
use Rattle.value_texts.specs.Printed.{value_step_tokens, OfEachEvent}
use Rattle.value_texts.specs.Internal.Names.{IsNameable}
use Rattle.value_texts.proofs.PrintFacts.{line-printed}
use Rattle.value_texts.proofs.printers.print_steps.Goals as goal

pub loop-step-preserved : goal.loop-step-preserved
loop-step-preserved c =
    let names = c.args.names.now in
    line-printed (value_step_tokens names) (OfEachEvent (IsNameable names)) _ _ _ c.args.steps.now c.loop-step.step-index _ c.loop-step-test.true
    (get_or_default c.args.steps.now c.loop-step.step-index _ _ c.loop-step-test.true) c.loop-step.invariant c.in_ok-print_step.ensures.line c.in_ok-print_step.ensures.nameable
