use Rattle.std.proofs.Common.{◌≡◌, ◌+◌, sym, subst, suc, arith}
use Rattle.std.specs.List.{Contains}
use borrow.Author.Tests.{eqb-true}
use Rattle.tso_ops.specs.Events.{Earlier}
use Rattle.value_check.specs.Internal.Settling.{IsAsked}
use Rattle.value_check.proofs.AnswerFacts.{is_false, not_so, refuses}
use Rattle.value_check.proofs.EventFacts.{false_not, not_true}
use Rattle.value_check.proofs.known.Known.is_asked.Goals as goal

pub returns-in-Before : goal.returns-in-Before
returns-in-Before c = λ t steps known. refuses (λ asked. subst (λ d. IsAsked t c.args.question.now d c.args.store) c.in-Before.is asked)

pub returns-in-SetAside : goal.returns-in-SetAside
returns-in-SetAside c = λ t steps known.
    let number : c.args.store + 1 ≡ suc c.args.store = omega arith in
    let all = c.deref.ensures.value in (
      λ is. subst (λ d. IsAsked t c.args.question.now d c.args.store) (sym c.in-SetAside.is)
          (subst (Contains c.in-SetAside.numbers.items) number (subst (λ ns. Contains ns (c.args.store + 1)) all (c.is_one_of.ensures.0 is))),
      λ asked. c.is_one_of.ensures.1
          (subst (λ ns. Contains ns (c.args.store + 1)) (sym all)
          (subst (Contains c.in-SetAside.numbers.items) (sym number) (subst (λ d. IsAsked t c.args.question.now d c.args.store) c.in-SetAside.is asked))),
    )

pub returns-then-from-x : goal.returns-then-from-x
returns-then-from-x c = λ t steps known. (
  λ is.
      let none = not_so c.is_earlier.result (Earlier t (suc c.args.store) (suc c.args.question.now.load)) (c.is_earlier.ensures t known.tables.events) (not_true c.is_earlier.result is) in
      subst (λ d. IsAsked t c.args.question.now d c.args.store) (sym c.in-After.is) (c.if-from-x.true, none),
  λ asked.
      let later = (subst (λ d. IsAsked t c.args.question.now d c.args.store) c.in-After.is asked).1 in
      false_not c.is_earlier.result (is_false c.is_earlier.result (λ is. later ((c.is_earlier.ensures t known.tables.events).0 is))),
)

pub returns-else-from-x : goal.returns-else-from-x
returns-else-from-x c = λ t steps known. (
  λ is. absurd (c.if-from-x.false (eqb-true c.in-After.from c.args.store is)),
  λ asked. absurd (c.if-from-x.false (subst (λ d. IsAsked t c.args.question.now d c.args.store) c.in-After.is asked).0),
)
