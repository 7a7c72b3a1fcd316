use Rattle.std.proofs.lemmas.List.{get_or_default}
use Rattle.value_texts.specs.Printed.{refutation_line_tokens, OfLineEvents}
use Rattle.value_texts.specs.Internal.Names.{IsNameable}
use Rattle.value_texts.proofs.PrintFacts.{line-printed}
use Rattle.value_texts.proofs.printers.print_lines.Goals as goal

pub loop-line-preserved : goal.loop-line-preserved
loop-line-preserved c =
    let names = c.args.names.now in
    line-printed (refutation_line_tokens names) (OfLineEvents (IsNameable names)) _ _ _ c.args.lines.now c.loop-line.line-index _ c.loop-line-test.true
    (get_or_default c.args.lines.now c.loop-line.line-index _ _ c.loop-line-test.true) c.loop-line.invariant c.in_ok-print_line.ensures.line c.in_ok-print_line.ensures.nameable
