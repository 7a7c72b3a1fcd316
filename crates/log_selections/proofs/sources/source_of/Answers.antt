use Rattle.std.proofs.Common.{◌∙◌, ℕ, Some, ap, subst, sym, length, unwrap_or}
use Rattle.log_selections.specs.Internal.Writers.{FindsWriter}
use Rattle.log_selections.proofs.WriterFacts.{first_and_store, no_store, only_first, only_store, two_stores}
use Rattle.log_selections.proofs.sources.source_of.Goals as goal

pub returns-in-None : goal.returns-in-None
returns-in-None c first accesses finds firsts =
    let written : ℕ × ℕ = (c.args.load.a, c.args.load.value) in
    let value = sym (firsts c.args.load.a) ∙ ap (λ o. unwrap_or o 0) (sym (c.copied.ensures ∙ c.get.ensures.value)) ∙ sym c.unwrap_or-first.ensures ∙ c.if-first-load.true in
    let found = sym c.get-2.ensures.value ∙ sym c.copied-2.ensures ∙ c.in-None.is in
    only_first accesses first written (subst (FindsWriter accesses (length accesses) written) found (finds written)) value

pub returns-in-One : goal.returns-in-One
returns-in-One c first accesses finds firsts =
    let written : ℕ × ℕ = (c.args.load.a, c.args.load.value) in
    let value = sym (firsts c.args.load.a) ∙ ap (λ o. unwrap_or o 0) (sym (c.copied.ensures ∙ c.get.ensures.value)) ∙ sym c.unwrap_or-first.ensures in
    let found = sym c.get-2.ensures.value ∙ sym c.copied-2.ensures ∙ c.in-Some.is ∙ ap Some c.in-One.is in
    only_store accesses first written c.in-One.number (subst (FindsWriter accesses (length accesses) written) found (finds written))
    (λ same. c.if-first-load-2.true (sym value ∙ same))

pub returns-in-None-2 : goal.returns-in-None-2
returns-in-None-2 c first accesses finds firsts =
    let written : ℕ × ℕ = (c.args.load.a, c.args.load.value) in
    let value = sym (firsts c.args.load.a) ∙ ap (λ o. unwrap_or o 0) (sym (c.copied.ensures ∙ c.get.ensures.value)) ∙ sym c.unwrap_or-first.ensures in
    let found = sym c.get-2.ensures.value ∙ sym c.copied-2.ensures ∙ c.in-None-2.is in
    (λ same. c.if-first-load.false (sym value ∙ same), no_store accesses written (subst (FindsWriter accesses (length accesses) written) found (finds written)))

pub returns-in_default : goal.returns-in_default
returns-in_default c first accesses finds firsts =
    let written : ℕ × ℕ = (c.args.load.a, c.args.load.value) in
    let value = sym (firsts c.args.load.a) ∙ ap (λ o. unwrap_or o 0) (sym (c.copied.ensures ∙ c.get.ensures.value)) ∙ sym c.unwrap_or-first.ensures ∙ c.if-first-load-2.false in
    let found = sym c.get-2.ensures.value ∙ sym c.copied-2.ensures ∙ c.in-Some.is ∙ ap Some c.in-One.is in
    first_and_store accesses first written c.in-One.number (subst (FindsWriter accesses (length accesses) written) found (finds written)) value

pub returns-in_default-2 : goal.returns-in_default-2
returns-in_default-2 c first accesses finds firsts =
    let written : ℕ × ℕ = (c.args.load.a, c.args.load.value) in
    let found = sym c.get-2.ensures.value ∙ sym c.copied-2.ensures ∙ c.in-Some.is ∙ ap Some c.in_default.is in
    two_stores accesses first written (subst (FindsWriter accesses (length accesses) written) found (finds written))
