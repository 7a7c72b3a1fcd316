use Rattle.std.proofs.Common.{[], ◌∷◌, string_bytes}
use Rattle.tso_cert.proofs.PrintFacts.{pushed-last, step-printed}
use Rattle.tso_cert.proofs.printers.print_step.Goals as goal

pub returns-clause-line : goal.returns-clause-line
returns-clause-line c =
    pushed-last c.push_str.result _ (string_bytes c.print_reason.new.text) (10 ∷ []) _ c.push_str.ensures.bytes
    (step-printed _ _ _ _ _ c.args.number c.args.step.now c.in_ok-write.ensures.bytes c.in_ok-print_event.ensures.token c.in_ok-print_event-2.ensures.token c.in_ok-print_reason.ensures.tokens)
