use Rattle.value_texts.proofs.ReadNameFacts.{primed, read-primed, read-plain, unread-primed, unread-plain}
use Rattle.value_texts.proofs.tables.read_name.Goals as goal
use Rattle.std.proofs.Common.{sym, ◌∙◌}

pub returns-in_err-number_of-in-Some-clause-none : goal.returns-in_err-number_of-in-Some-clause-none
returns-in_err-number_of-in-Some-clause-none c =
    let ends = primed c.args.token.now c.in-Some.line.now c.as_slice.result.now c.as_slice.ensures c.in-Some.ensures.cases.0 c.in-Some.ensures.cases.1 in
    rw c.from_residual.ensures (λ name low same. unread-primed c.args.token.now c.in-Some.line.now name ends (sym c.number_of.ensures ∙ c.in_err-number_of-in-Some.was) low same)

pub returns-in_err-number_of-in-None-clause-none : goal.returns-in_err-number_of-in-None-clause-none
returns-in_err-number_of-in-None-clause-none c =
    rw c.from_residual-in_err-number_of-in-None.ensures
    (λ name low same. unread-plain c.args.token.now c.as_slice.result.now name c.as_slice.ensures c.in-None.ensures.cases (sym c.number_of-in-None.ensures ∙ c.in_err-number_of-in-None.was) low same)

pub returns-in_ok-number_of-in-Some-clause-some : goal.returns-in_ok-number_of-in-Some-clause-some
returns-in_ok-number_of-in-Some-clause-some c =
    let ends = primed c.args.token.now c.in-Some.line.now c.as_slice.result.now c.as_slice.ensures c.in-Some.ensures.cases.0 c.in-Some.ensures.cases.1 in
    read-primed c.args.token.now c.in-Some.line.now c.in_ok-number_of-in-Some.field-0 ends (sym c.number_of.ensures ∙ c.in_ok-number_of-in-Some.was)

pub returns-in_ok-number_of-in-None-clause-some : goal.returns-in_ok-number_of-in-None-clause-some
returns-in_ok-number_of-in-None-clause-some c =
    read-plain c.args.token.now c.in_ok-number_of-in-None.field-0 (sym c.number_of-in-None.ensures ∙ c.in_ok-number_of-in-None.was)
