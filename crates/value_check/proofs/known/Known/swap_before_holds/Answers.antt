use Rattle.std.proofs.Common.{◌↔◌, ◌+◌, IsTrue, sym, subst, suc, add-one, arith}
use Rattle.tso_ops.specs.Events.{IsStore, IsSwapLoad}
use Rattle.tso_ops.proofs.NumberFacts.{store_event}
use Rattle.value_evidence.specs.declared.steps.ValueStep.TheVariants.{SwapBefore}
use Rattle.value_evidence.specs.Candidates.{ComesBefore}
use Rattle.value_evidence.specs.Evidence.{ValueStepHolds}
use Rattle.value_check.proofs.AnswerFacts.{no_index, not_so, refuses}
use Rattle.value_check.proofs.known.Known.swap_before_holds.Goals as goal

pub returns-in_default : goal.returns-in_default
returns-in_default c = λ t steps known. refuses (λ holds. no_index t c.args.self.now known.tables c.args.from c.in_default.ensures (store_event t c.args.from holds.1))

pub returns-in_default-index_of : goal.returns-in_default-index_of
returns-in_default-index_of c = λ t steps known. refuses (λ holds. no_index t c.args.self.now known.tables c.args.swap c.in_default-index_of.ensures (holds.0.0, holds.0.1))

pub returns-then-u-m : goal.returns-then-u-m
returns-then-u-m c = λ t steps known. refuses (λ holds. holds.2 (omega (arith, c.in-Some.ensures.0, c.in-Some-index_of.ensures.0, c.if-u-m.true)))

pub returns-then-not-is_swap_load : goal.returns-then-not-is_swap_load
returns-then-not-is_swap_load c = λ t steps known.
    refuses (λ holds. not_so c.is_swap_load.result (IsSwapLoad t (suc c.in-Some-index_of.m)) (c.is_swap_load.ensures t known.tables.events) c.if-not-is_swap_load.true (subst (λ n. IsSwapLoad t n) c.in-Some-index_of.ensures.0 (holds.0)))

pub returns-then-not-is_store : goal.returns-then-not-is_store
returns-then-not-is_store c = λ t steps known.
    refuses (λ holds. not_so c.is_store.result (IsStore t (suc c.in-Some.u)) (c.is_store.ensures t known.tables.events) c.if-not-is_store.true (subst (λ n. IsStore t n) c.in-Some.ensures.0 (holds.1)))

pub returns : goal.returns
returns c = λ t steps known.
    let u = c.in-Some.u in
    let m = c.in-Some-index_of.m in
    subst (λ n. IsTrue c.leads.result ↔ ValueStepHolds t steps (SwapBefore n c.args.swap)) (sym c.in-Some.ensures.0)
    (subst (λ n. IsTrue c.leads.result ↔ ValueStepHolds t steps (SwapBefore (suc u) n)) (sym c.in-Some-index_of.ensures.0) (
      λ true. (
        (c.is_swap_load.ensures t known.tables.events).0 c.if-not-is_swap_load.false,
        (c.is_store.ensures t known.tables.events).0 c.if-not-is_store.false,
        (λ same. c.if-u-m.false (omega (arith, same))),
        subst (λ n. ComesBefore t steps (suc u) (suc n)) (add-one m) ((known.leads u (m + 1)).0 (c.leads.ensures.0 true)),
      ),
      λ holds. c.leads.ensures.1 ((known.leads u (m + 1)).1 (subst (λ n. ComesBefore t steps (suc u) (suc n)) (sym (add-one m)) holds.3)),
    ))
