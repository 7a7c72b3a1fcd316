use Rattle.std.proofs.Common.{◌↔◌, IsTrue, sym, subst, suc}
use Rattle.std.proofs.lemmas.Result.{IfOk-weaker}
use Rattle.tso_ops.specs.Events.{IsLoad, IsStore, SameAddress}
use Rattle.tso_ops.proofs.NumberFacts.{load_event, store_event}
use Rattle.value_evidence.specs.declared.steps.ValueStep.TheVariants.{Out}
use Rattle.value_evidence.specs.Evidence.{ValueStepHolds}
use Rattle.value_check.specs.declared.settling.Demand.TheVariants.{Before}
use Rattle.value_check.specs.Internal.Showing.{ShowsAll, ShowsStep}
use Rattle.value_check.proofs.AnswerFacts.{no_index, not_so, refuses}
use Rattle.value_check.proofs.known.Known.out_holds.Goals as goal

pub returns-in_default : goal.returns-in_default
returns-in_default c = λ t steps known. refuses (λ holds. no_index t c.args.self.now known.tables c.args.load c.in_default.ensures (load_event t c.args.load holds.0))

pub returns-in_default-index_of : goal.returns-in_default-index_of
returns-in_default-index_of c = λ t steps known. refuses (λ holds. no_index t c.args.self.now known.tables c.args.to c.in_default-index_of.ensures (store_event t c.args.to holds.1))

pub returns-then-not-is_load : goal.returns-then-not-is_load
returns-then-not-is_load c = λ t steps known.
    refuses (λ holds. not_so c.is_load.result (IsLoad t (suc c.in-Some.l)) (c.is_load.ensures t known.tables.events) c.if-not-is_load.true (subst (λ n. IsLoad t n) c.in-Some.ensures.0 (holds.0)))

pub returns-then-not-is_store : goal.returns-then-not-is_store
returns-then-not-is_store c = λ t steps known.
    refuses (λ holds. not_so c.is_store.result (IsStore t (suc c.in-Some-index_of.v)) (c.is_store.ensures t known.tables.events) c.if-not-is_store.true (subst (λ n. IsStore t n) c.in-Some-index_of.ensures.0 (holds.1)))

pub returns-then-not-is_one_address : goal.returns-then-not-is_one_address
returns-then-not-is_one_address c = λ t steps known.
    refuses (λ holds. not_so c.is_one_address.result (SameAddress t (suc c.in-Some-index_of.v) (suc c.in-Some.l)) (c.is_one_address.ensures t known.tables.events) c.if-not-is_one_address.true (subst (λ n. SameAddress t n (suc c.in-Some.l)) c.in-Some-index_of.ensures.0 (subst (λ n. SameAddress t c.args.to n) c.in-Some.ensures.0 (holds.2))))

pub returns : goal.returns
returns c =
    let k = c.args.self.now in
    let l = c.in-Some.l in
    let v = c.in-Some-index_of.v in
    IfOk-weaker c.are_all.result (ShowsAll k l (Before v)) (ShowsStep k (Out c.args.load c.args.to))
    (λ is shows t steps known.
    let load = (c.is_load.ensures t known.tables.events).0 c.if-not-is_load.false in
    let all = shows t steps known load in
    subst (λ n. IsTrue is ↔ ValueStepHolds t steps (Out n c.args.to)) (sym c.in-Some.ensures.0)
    (subst (λ n. IsTrue is ↔ ValueStepHolds t steps (Out (suc l) n)) (sym c.in-Some-index_of.ensures.0) (
      λ true. (load, (c.is_store.ensures t known.tables.events).0 c.if-not-is_store.false, (c.is_one_address.ensures t known.tables.events).0 c.if-not-is_one_address.false, all.0 true),
      λ holds. all.1 holds.3,
    )))
    c.are_all.ensures
