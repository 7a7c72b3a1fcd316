use Rattle.std.proofs.Common.{inl, inr, sym, subst, slice_index, arith}
use Rattle.std.proofs.lemmas.Bool.{cases_eq, cases_lt}
use Rattle.value_check.specs.Internal.Settling.{Settles}
use Rattle.value_check.proofs.AnswerFacts.{not_so}
use Rattle.value_check.proofs.known.Known.are_settled.Goals as goal

pub loop-i-preserved : goal.loop-i-preserved
loop-i-preserved c = λ t steps known seen sources k from below.
    elim (cases_eq k c.loop-i.i) [
      | inl same ↦
          subst (λ n. Settles t steps c.args.question.now (slice_index c.args.stores.now n)) (sym same)
          ((c.settles.ensures t steps known seen (sources c.loop-i.i (omega arith))).0 c.if-not-settles.false)
      | inr other ↦ c.loop-i.invariant t steps known seen sources k from (omega (arith, other, below))
    ]

pub returns-then-not-settles : goal.returns-then-not-settles
returns-then-not-settles c = λ t steps known seen ordered sources. (
  c.loop-i.i,
  omega arith,
  not_so c.settles.result (Settles t steps c.args.question.now (slice_index c.args.stores.now c.loop-i.i)) (c.settles.ensures t steps known seen (sources c.loop-i.i (omega arith))) c.if-not-settles.true,
)

pub returns : goal.returns
returns c = λ t steps known seen ordered sources i within.
    elim (cases_lt i c.settled_end-low.result) [
      | inl low ↦ c.settled_end-low.ensures.settled t steps known seen ordered i low
      | inr from ↦ elim (cases_lt i c.settled_start-high.result) [
        | inl middle ↦ c.loop-i.invariant t steps known seen sources i (omega (arith, from)) (omega (arith, middle))
        | inr high ↦ c.settled_start-high.ensures.settled t steps known ordered i (omega (arith, high)) within
      ]
    ]
