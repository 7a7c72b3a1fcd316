use Rattle.std.proofs.Common.{◌≡◌, All, rules}
use Rattle.std.specs.Prelude.{IfErr}
use Rattle.value_texts.specs.declared.refusals.ValuePrintRefusal.TheVariants.{NoEvent}
use Rattle.value_texts.specs.Printed.{evidence_value, without_cases, OfEachEvent}
use Rattle.value_texts.specs.Names.{IsNumbered}
use Rattle.value_texts.specs.Internal.Names.{IsNameable}
use Rattle.value_texts.proofs.DistinctFacts.{all_from, spelled_once, ok_from, err_from}
use Rattle.value_texts.proofs.PrintFacts.{without_cases-printed, lines_from, from_lines}
use Rattle.value_texts.proofs.printers.print_value_evidence.Goals as goal

pub returns-clause-lines : goal.returns-clause-lines
returns-clause-lines c =
    without_cases-printed c.print_end.result c.args.names.now (evidence_value c.args.evidence.now) _ _ _ (rw c.deref.ensures.value at c.in_ok-print_steps.ensures.lines) c.print_end.ensures.line

pub returns-clause-numbered : goal.returns-clause-numbered
returns-clause-numbered c =
    let names = c.args.names.now in
    let steps = rw c.deref.ensures.value at c.in_ok-print_steps.ensures.nameable in
    let e = evidence_value c.args.evidence.now in
    ok_from c.print_end.result (λ end. all_from (IsNameable names) (IsNumbered names) (λ n named. named.0) (without_cases e) (lines_from (IsNameable names) e.steps e.end steps end)) c.print_end.ensures.nameable

pub returns-clause-spells : goal.returns-clause-spells
returns-clause-spells c =
    let names = c.args.names.now in
    let steps = rw c.deref.ensures.value at c.in_ok-print_steps.ensures.nameable in
    let e = evidence_value c.args.evidence.now in
    ok_from c.print_end.result (λ end distinct. spelled_once names distinct (without_cases e) (lines_from (IsNameable names) e.steps e.end steps end)) c.print_end.ensures.nameable

pub returns-in_err-print_steps-clause-refused : goal.returns-in_err-print_steps-clause-refused
returns-in_err-print_steps-clause-refused c =
    let P = IsNumbered c.args.names.now in
    let e = evidence_value c.args.evidence.now in
    let refused : IfErr c.from_residual.result (λ why. why ≡ NoEvent → All (OfEachEvent P) e.steps → ⊥) = search rules in
    err_from c.from_residual.result (λ why none is all. none is (from_lines P e.steps e.end all).0) refused

pub returns-clause-refused : goal.returns-clause-refused
returns-clause-refused c =
    let P = IsNumbered c.args.names.now in
    let e = evidence_value c.args.evidence.now in
    err_from c.print_end.result (λ why none is all. none is (from_lines P e.steps e.end all).1) c.print_end.ensures.refused
