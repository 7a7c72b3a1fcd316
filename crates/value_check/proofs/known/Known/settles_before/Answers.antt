use Rattle.std.proofs.Common.{refl, sym, subst, suc, inl, inr}
use Rattle.value_check.specs.Internal.Settling.{IsLedOn, IsOver}
use Rattle.value_check.proofs.AnswerFacts.{not_so, refuses}
use Rattle.value_check.proofs.known.Known.settles_before.Goals as goal

pub returns-then-is_over : goal.returns-then-is_over
returns-then-is_over c = λ t steps known seen. (λ is. inl ((c.is_over.ensures t steps known seen).0 c.if-is_over.true), λ settles. refl)

pub returns-in-Before : goal.returns-in-Before
returns-in-Before c = λ t steps known seen.
    let none = not_so c.is_over.result (IsOver t steps (suc c.args.question.now.load) (suc c.args.store)) (c.is_over.ensures t steps known seen) c.if-is_over.false in (
      λ is. inr (subst (λ d. IsLedOn t steps d (suc c.args.store)) (sym c.in-Before.is) ((known.leads c.args.store c.in-Before.to).0 (c.leads.ensures.0 is))),
      λ settles. elim settles [
        | inl over ↦ absurd (none over)
        | inr led ↦ c.leads.ensures.1 ((known.leads c.args.store c.in-Before.to).1 (subst (λ d. IsLedOn t steps d (suc c.args.store)) c.in-Before.is led))
      ],
    )

pub returns-in-UpTo : goal.returns-in-UpTo
returns-in-UpTo c = λ t steps known seen.
    let none = not_so c.is_over.result (IsOver t steps (suc c.args.question.now.load) (suc c.args.store)) (c.is_over.ensures t steps known seen) c.if-is_over.false in (
      λ is. inr (subst (λ d. IsLedOn t steps d (suc c.args.store)) (sym c.in-UpTo.is) ((known.leads c.args.store c.in-UpTo.to).0 (c.leads-in-UpTo.ensures.0 is))),
      λ settles. elim settles [
        | inl over ↦ absurd (none over)
        | inr led ↦ c.leads-in-UpTo.ensures.1 ((known.leads c.args.store c.in-UpTo.to).1 (subst (λ d. IsLedOn t steps d (suc c.args.store)) c.in-UpTo.is led))
      ],
    )

pub returns-in-Is : goal.returns-in-Is
returns-in-Is c = λ t steps known seen.
    let none = not_so c.is_over.result (IsOver t steps (suc c.args.question.now.load) (suc c.args.store)) (c.is_over.ensures t steps known seen) c.if-is_over.false in
    refuses (λ settles. elim settles [ inl over ↦ none over | inr led ↦ subst (λ d. IsLedOn t steps d (suc c.args.store)) c.in-Is.is led ])

pub returns-in-After : goal.returns-in-After
returns-in-After c = λ t steps known seen.
    let none = not_so c.is_over.result (IsOver t steps (suc c.args.question.now.load) (suc c.args.store)) (c.is_over.ensures t steps known seen) c.if-is_over.false in
    refuses (λ settles. elim settles [ inl over ↦ none over | inr led ↦ subst (λ d. IsLedOn t steps d (suc c.args.store)) c.in-After.is led ])

pub returns-in-SetAside : goal.returns-in-SetAside
returns-in-SetAside c = λ t steps known seen.
    let none = not_so c.is_over.result (IsOver t steps (suc c.args.question.now.load) (suc c.args.store)) (c.is_over.ensures t steps known seen) c.if-is_over.false in
    refuses (λ settles. elim settles [ inl over ↦ none over | inr led ↦ subst (λ d. IsLedOn t steps d (suc c.args.store)) c.in-SetAside.is led ])
