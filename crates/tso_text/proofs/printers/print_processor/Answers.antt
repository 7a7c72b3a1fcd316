use Rattle.tso_text.proofs.PrintFacts.{processor_text-parts}
use Rattle.tso_text.proofs.printers.print_processor.Goals as goal

pub returns : goal.returns
returns g c = processor_text-parts g.T.Form.tokens c.print_items.result _ _ _ c.args.items.now c.in_ok-writeln.ensures.bytes c.print_items.ensures
