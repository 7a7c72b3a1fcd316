use Rattle.std.proofs.Common.{refl, sym, subst, suc, inl, inr}
use Rattle.chain_reach.specs.Leading.{Leads}
use Rattle.tso_ops.specs.Events.{Earlier}
use Rattle.value_check.specs.Internal.Settling.{IsLedTo}
use Rattle.value_check.proofs.AnswerFacts.{not_so, refuses}
use Rattle.value_check.proofs.known.Known.settles_after.Goals as goal

pub returns-then-is_earlier : goal.returns-then-is_earlier
returns-then-is_earlier c = λ t steps known. refuses (λ settles. settles.0 ((c.is_earlier.ensures t known.tables.events).0 c.if-is_earlier.true))

pub returns-then-leads : goal.returns-then-leads
returns-then-leads c = λ t steps known. (
  λ is. (
    not_so c.is_earlier.result (Earlier t (suc c.args.store) (suc c.args.question.now.load)) (c.is_earlier.ensures t known.tables.events) c.if-is_earlier.false,
    inl ((known.leads c.args.question.now.load c.args.store).0 (c.leads.ensures.0 c.if-leads.true)),
  ),
  λ settles. refl,
)

pub returns-in-After : goal.returns-in-After
returns-in-After c = λ t steps known.
    let none = not_so c.leads.result (Leads c.args.self.now.reach c.args.question.now.load c.args.store) c.leads.ensures c.if-leads.false in (
      λ is. (
        not_so c.is_earlier.result (Earlier t (suc c.args.store) (suc c.args.question.now.load)) (c.is_earlier.ensures t known.tables.events) c.if-is_earlier.false,
        inr (subst (λ d. IsLedTo t steps d (suc c.args.store)) (sym c.in-After.is) ((known.leads c.in-After.from c.args.store).0 (c.leads-in-After.ensures.0 is))),
      ),
      λ settles. elim settles.1 [
        | inl path ↦ absurd (none ((known.leads c.args.question.now.load c.args.store).1 path))
        | inr led ↦ c.leads-in-After.ensures.1 ((known.leads c.in-After.from c.args.store).1 (subst (λ d. IsLedTo t steps d (suc c.args.store)) c.in-After.is led))
      ],
    )

pub returns-in-Is : goal.returns-in-Is
returns-in-Is c = λ t steps known.
    let none = not_so c.leads.result (Leads c.args.self.now.reach c.args.question.now.load c.args.store) c.leads.ensures c.if-leads.false in
    refuses (λ settles. elim settles.1 [
      | inl path ↦ none ((known.leads c.args.question.now.load c.args.store).1 path)
      | inr led ↦ subst (λ d. IsLedTo t steps d (suc c.args.store)) c.in-Is.is led
    ])

pub returns-in-Before : goal.returns-in-Before
returns-in-Before c = λ t steps known.
    let none = not_so c.leads.result (Leads c.args.self.now.reach c.args.question.now.load c.args.store) c.leads.ensures c.if-leads.false in
    refuses (λ settles. elim settles.1 [
      | inl path ↦ none ((known.leads c.args.question.now.load c.args.store).1 path)
      | inr led ↦ subst (λ d. IsLedTo t steps d (suc c.args.store)) c.in-Before.is led
    ])

pub returns-in-UpTo : goal.returns-in-UpTo
returns-in-UpTo c = λ t steps known.
    let none = not_so c.leads.result (Leads c.args.self.now.reach c.args.question.now.load c.args.store) c.leads.ensures c.if-leads.false in
    refuses (λ settles. elim settles.1 [
      | inl path ↦ none ((known.leads c.args.question.now.load c.args.store).1 path)
      | inr led ↦ subst (λ d. IsLedTo t steps d (suc c.args.store)) c.in-UpTo.is led
    ])

pub returns-in-SetAside : goal.returns-in-SetAside
returns-in-SetAside c = λ t steps known.
    let none = not_so c.leads.result (Leads c.args.self.now.reach c.args.question.now.load c.args.store) c.leads.ensures c.if-leads.false in
    refuses (λ settles. elim settles.1 [
      | inl path ↦ none ((known.leads c.args.question.now.load c.args.store).1 path)
      | inr led ↦ subst (λ d. IsLedTo t steps d (suc c.args.store)) c.in-SetAside.is led
    ])
