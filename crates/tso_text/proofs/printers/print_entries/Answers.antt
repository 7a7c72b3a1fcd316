use Rattle.std.proofs.Common.{refl}
use Rattle.std.proofs.lemmas.List.{take_all}
use Rattle.tso_text.specs.Printed.{entry_tokens}
use Rattle.tso_text.proofs.PrintFacts.{items_text-none, items_text-more}
use Rattle.tso_text.proofs.printers.print_entries.Goals as goal

pub loop-entry-init : goal.loop-entry-init
loop-entry-init c = items_text-none entry_tokens _ c.args.first.now

pub loop-entry-preserved : goal.loop-entry-preserved
loop-entry-preserved c =
    items_text-more entry_tokens _ _ _ c.args.first.now c.loop-entry.entry-index _ (0, 0) c.loop-entry-test.true refl c.loop-entry.invariant c.in_ok-print_entry.ensures

pub returns : goal.returns
returns c = rw (take_all c.loop-entry.entry-index c.args.first.now c.loop-entry-test.false) at c.loop-entry.invariant
