use Rattle.std.proofs.Common.{◌↔◌, IsTrue, sym, subst, suc, arith}
use Rattle.tso_ops.specs.Events.{IsStore, IsSwapLoad}
use Rattle.tso_ops.proofs.NumberFacts.{store_event}
use Rattle.value_evidence.specs.declared.steps.ValueStep.TheVariants.{SwapAfter}
use Rattle.value_evidence.specs.Evidence.{ValueStepHolds}
use Rattle.value_check.proofs.AnswerFacts.{no_index, not_so, refuses}
use Rattle.value_check.proofs.known.Known.swap_after_holds.Goals as goal

pub returns-in_default : goal.returns-in_default
returns-in_default c = λ t steps known. refuses (λ holds. no_index t c.args.self.now known.tables c.args.swap c.in_default.ensures (holds.0.0, holds.0.1))

pub returns-in_default-index_of : goal.returns-in_default-index_of
returns-in_default-index_of c = λ t steps known. refuses (λ holds. no_index t c.args.self.now known.tables c.args.to c.in_default-index_of.ensures (store_event t c.args.to holds.1))

pub returns-then-v-m : goal.returns-then-v-m
returns-then-v-m c = λ t steps known. refuses (λ holds. holds.2 (omega (arith, c.in-Some.ensures.0, c.in-Some-index_of.ensures.0, c.if-v-m.true)))

pub returns-then-not-is_swap_load : goal.returns-then-not-is_swap_load
returns-then-not-is_swap_load c = λ t steps known.
    refuses (λ holds. not_so c.is_swap_load.result (IsSwapLoad t (suc c.in-Some.m)) (c.is_swap_load.ensures t known.tables.events) c.if-not-is_swap_load.true (subst (λ n. IsSwapLoad t n) c.in-Some.ensures.0 (holds.0)))

pub returns-then-not-is_store : goal.returns-then-not-is_store
returns-then-not-is_store c = λ t steps known.
    refuses (λ holds. not_so c.is_store.result (IsStore t (suc c.in-Some-index_of.v)) (c.is_store.ensures t known.tables.events) c.if-not-is_store.true (subst (λ n. IsStore t n) c.in-Some-index_of.ensures.0 (holds.1)))

pub returns : goal.returns
returns c = λ t steps known.
    let m = c.in-Some.m in
    let v = c.in-Some-index_of.v in
    subst (λ n. IsTrue c.leads.result ↔ ValueStepHolds t steps (SwapAfter n c.args.to)) (sym c.in-Some.ensures.0)
    (subst (λ n. IsTrue c.leads.result ↔ ValueStepHolds t steps (SwapAfter (suc m) n)) (sym c.in-Some-index_of.ensures.0) (
      λ true. (
        (c.is_swap_load.ensures t known.tables.events).0 c.if-not-is_swap_load.false,
        (c.is_store.ensures t known.tables.events).0 c.if-not-is_store.false,
        (λ same. c.if-v-m.false (omega (arith, same))),
        (known.leads m v).0 (c.leads.ensures.0 true),
      ),
      λ holds. c.leads.ensures.1 ((known.leads m v).1 holds.3),
    ))
