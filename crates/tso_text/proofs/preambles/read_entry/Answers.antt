use Rattle.std.proofs.Common.{◌≡◌, ℕ, List, Ok, sym, ◌∙◌, ap, subst}
use Rattle.line_text.specs.Lines.{tokens_after}
use Rattle.line_text.specs.Results.{◌>>=◌}
use Rattle.tso_text.specs.Numbers.{number_at}
use Rattle.tso_text.specs.Internal.LineReadings.{address, entry_by}
use Rattle.tso_text.specs.Internal.Preambles.{said_entry_fault}
use Rattle.tso_text.specs.Internal.Accepted.{IsRefusedFor}
use Rattle.tso_text.proofs.FaultFacts.{no_fault, entry_refused_for, entry_not_stbar}
use Rattle.tso_text.proofs.preambles.read_entry.Goals as goal

pub returns-in-Ok-clause-read : goal.returns-in-Ok-clause-read
returns-in-Ok-clause-read c =
    let says : entry_by (tokens_after c.args.tokens) ≡ Ok (c.address.result, c.in_ok-a.v) =
    ap (λ r. r >>= λ (ns : List ℕ). Ok (address (number_at ns 0), number_at ns 1)) c.in_ok-a.ensures ∙ ap (λ a. Ok (a, c.in_ok-a.v)) (sym c.address.ensures) in
    record { entry = (c.address.result, c.in_ok-a.v); says = says; clean = no_fault _ c.in-Ok.ensures.clean; is = c.in-Ok.ensures.appended }

pub returns-in-Err-clause-refused : goal.returns-in-Err-clause-refused
returns-in-Err-clause-refused c =
    let says : entry_by (tokens_after c.args.tokens) ≡ Ok (c.address.result, c.in_ok-a.v) =
    ap (λ r. r >>= λ (ns : List ℕ). Ok (address (number_at ns 0), number_at ns 1)) c.in_ok-a.ensures ∙ ap (λ a. Ok (a, c.in_ok-a.v)) (sym c.address.ensures) in
    subst (λ r. IsRefusedFor (said_entry_fault c.args.setting.now.first.items r) c.why_of.result) (sym says)
    (entry_refused_for c.args.setting.now.first.items (c.address.result, c.in_ok-a.v) c.in-Err.fault c.why_of.result c.why_of.ensures c.in-Err.ensures.refused)

pub why_of-requires : goal.why_of-requires
why_of-requires c = entry_not_stbar c.args.setting.now.first.items (c.address.result, c.in_ok-a.v) c.in-Err.fault c.in-Err.ensures.refused
