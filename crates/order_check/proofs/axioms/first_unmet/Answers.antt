use Rattle.std.proofs.Common.{◌≡◌, ◌∙◌, inl, inr, get_or, Some, refl, sym, subst, arith}
use Rattle.std.proofs.lemmas.Bool.{cases_lt, false≢true}
use Rattle.tso_ops.specs.Events.{event_at}
use Rattle.order_check.specs.declared.faults.Axiom.TheVariants.{LoadOp}
use Rattle.order_check.specs.Refusals.{MeetsAt}
use Rattle.order_check.proofs.AxiomFacts.{all_met, axioms, first_unmet_is}
use Rattle.order_check.proofs.axioms.first_unmet.Goals as goal

pub returns-then-not-is_met : goal.returns-then-not-is_met
returns-then-not-is_met c = λ order passed.
    let at : event_at c.args.trace.now c.args.n ≡ Some c.in_ok-event.event = sym c.event.ensures ∙ c.in_ok-event.was in
    first_unmet_is c.args.trace.now order c.args.n c.loop-k.k (c.loop-k.invariant order passed) c.loop-k-test.true (λ met. false≢true ((c.if-not-is_met.ensures order passed at).1 met))

pub loop-k-preserved : goal.loop-k-preserved
loop-k-preserved c = λ order passed j below.
    let at : event_at c.args.trace.now c.args.n ≡ Some c.in_ok-event.event = sym c.event.ensures ∙ c.in_ok-event.was in
    elim (cases_lt j c.loop-k.k) [
      | inl before ↦ c.loop-k.invariant order passed j before
      | inr late ↦ (let same : c.loop-k.k ≡ j = omega arith in
          subst (λ i. MeetsAt c.args.trace.now order (get_or axioms i LoadOp) c.args.n) same ((c.if-not-is_met.ensures order passed at).0 refl))
    ]

pub returns : goal.returns
returns c = λ order passed. all_met c.args.trace.now order c.args.n c.loop-k.k (c.loop-k.invariant order passed) (omega (arith, c.loop-k-test.false))
