use Rattle.std.proofs.Common.{◌↔◌, IsTrue, sym, subst, suc, arith}
use Rattle.std.proofs.lemmas.Result.{IfOk-weaker}
use Rattle.tso_ops.specs.Events.{IsLoad, IsStore}
use Rattle.tso_ops.proofs.NumberFacts.{load_event, store_event}
use Rattle.value_evidence.specs.declared.steps.ValueStep.TheVariants.{Over}
use Rattle.value_evidence.specs.Candidates.{SeesStore}
use Rattle.value_evidence.specs.Evidence.{ValueStepHolds}
use Rattle.value_check.specs.declared.settling.Demand.TheVariants.{UpTo}
use Rattle.value_check.specs.Internal.Showing.{ShowsAll, ShowsStep}
use Rattle.value_check.proofs.AnswerFacts.{no_index, not_so, refuses}
use Rattle.value_check.proofs.known.Known.over_holds.Goals as goal

pub returns-in_default : goal.returns-in_default
returns-in_default c = λ t steps known. refuses (λ holds. no_index t c.args.self.now known.tables c.args.from c.in_default.ensures (store_event t c.args.from holds.1.0))

pub returns-in_default-index_of : goal.returns-in_default-index_of
returns-in_default-index_of c = λ t steps known. refuses (λ holds. no_index t c.args.self.now known.tables c.args.to c.in_default-index_of.ensures (store_event t c.args.to holds.2))

pub returns-in_default-index_of-2 : goal.returns-in_default-index_of-2
returns-in_default-index_of-2 c = λ t steps known. refuses (λ holds. no_index t c.args.self.now known.tables c.args.load c.in_default-index_of-2.ensures (load_event t c.args.load holds.0))

pub returns-then-u-v : goal.returns-then-u-v
returns-then-u-v c = λ t steps known. refuses (λ holds. holds.3 (omega (arith, c.in-Some.ensures.0, c.in-Some-index_of.ensures.0, c.if-u-v.true)))

pub returns-then-not-is_load : goal.returns-then-not-is_load
returns-then-not-is_load c = λ t steps known.
    refuses (λ holds. not_so c.is_load.result (IsLoad t (suc c.in-Some-index_of-2.l)) (c.is_load.ensures t known.tables.events) c.if-not-is_load.true (subst (λ n. IsLoad t n) c.in-Some-index_of-2.ensures.0 (holds.0)))

pub returns-then-not-sees : goal.returns-then-not-sees
returns-then-not-sees c = λ t steps known.
    refuses (λ holds. not_so c.sees.result (SeesStore t steps (suc c.in-Some-index_of-2.l) (suc c.in-Some.u)) (c.sees.ensures t steps known) c.if-not-sees.true (subst (λ n. SeesStore t steps n (suc c.in-Some.u)) c.in-Some-index_of-2.ensures.0 (subst (λ n. SeesStore t steps c.args.load n) c.in-Some.ensures.0 (holds.1))))

pub returns-then-not-is_store : goal.returns-then-not-is_store
returns-then-not-is_store c = λ t steps known.
    refuses (λ holds. not_so c.is_store.result (IsStore t (suc c.in-Some-index_of.v)) (c.is_store.ensures t known.tables.events) c.if-not-is_store.true (subst (λ n. IsStore t n) c.in-Some-index_of.ensures.0 (holds.2)))

pub returns : goal.returns
returns c =
    let k = c.args.self.now in
    let u = c.in-Some.u in
    let v = c.in-Some-index_of.v in
    let l = c.in-Some-index_of-2.l in
    IfOk-weaker c.are_all.result (ShowsAll k l (UpTo v)) (ShowsStep k (Over c.args.from c.args.to c.args.load))
    (λ is shows t steps known.
    let load = (c.is_load.ensures t known.tables.events).0 c.if-not-is_load.false in
    let all = shows t steps known load in
    subst (λ n. IsTrue is ↔ ValueStepHolds t steps (Over n c.args.to c.args.load)) (sym c.in-Some.ensures.0)
    (subst (λ n. IsTrue is ↔ ValueStepHolds t steps (Over (suc u) n c.args.load)) (sym c.in-Some-index_of.ensures.0)
    (subst (λ n. IsTrue is ↔ ValueStepHolds t steps (Over (suc u) (suc v) n)) (sym c.in-Some-index_of-2.ensures.0) (
      λ true. (
        load,
        (c.sees.ensures t steps known).0 c.if-not-sees.false,
        (c.is_store.ensures t known.tables.events).0 c.if-not-is_store.false,
        (λ same. c.if-u-v.false (omega (arith, same))),
        all.0 true,
      ),
      λ holds. all.1 holds.4,
    ))))
    c.are_all.ensures
