use Rattle.std.proofs.Common.{ap, ◌∙◌, ◌++◌, List, ℕ}
use Rattle.tso_text.specs.Printed.{items_text, act_tokens}
use Rattle.tso_text.proofs.PrintFacts.{schedule_text-parts}
use Rattle.tso_text.proofs.printers.print_schedule.Goals as goal

pub returns : goal.returns
returns c =
    let text = schedule_text-parts c.args.acts.now _ _ (c.in_ok-print_items.ensures ∙ ap (λ (t : List ℕ). t ++ items_text act_tokens c.args.acts.now) c.in_ok-text.ensures.ok) c.in_ok-writeln.ensures.bytes in
    record { lines = text; spelled = λ within short. (within, short, text) }
