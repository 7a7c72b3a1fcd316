use Rattle.std.proofs.Common.{IsTrue, sym, subst, suc}
use Rattle.std.proofs.lemmas.Result.{IfOk-weaker}
use Rattle.tso_ops.specs.Events.{IsLoad}
use Rattle.tso_ops.proofs.NumberFacts.{load_event}
use Rattle.value_evidence.specs.declared.steps.ValueEnd.TheVariants.{NoSource}
use Rattle.value_evidence.specs.Candidates.{CanRead}
use Rattle.value_evidence.specs.Refutations.{EndHoldsBeside}
use Rattle.value_check.specs.declared.settling.Demand.TheVariants.{SetAside}
use Rattle.value_check.specs.Internal.Showing.{ShowsAll, ShowsEnd}
use Rattle.value_check.proofs.AnswerFacts.{no_index, not_so, refuses}
use Rattle.value_check.proofs.known.Known.has_no_source.Goals as goal

pub returns-in_default : goal.returns-in_default
returns-in_default c = λ t steps known. refuses (λ holds. no_index t c.args.self.now known.tables c.args.load c.in_default.ensures (load_event t c.args.load holds.0))

pub returns-then-not-is_load : goal.returns-then-not-is_load
returns-then-not-is_load c = λ t steps known.
    refuses (λ holds. not_so c.is_load.result (IsLoad t (suc c.in-Some.l)) (c.is_load.ensures t known.tables.events) c.if-not-is_load.true (subst (λ n. IsLoad t n) c.in-Some.ensures.0 (holds.0)))

pub returns : goal.returns
returns c =
    let k = c.args.self.now in
    let l = c.in-Some.l in
    let numbers = c.in_ok-set_aside.field-0 in
    IfOk-weaker c.are_all.result (ShowsAll k l (SetAside numbers)) (ShowsEnd k c.args.aside.now (NoSource c.args.load))
    (λ is shows t steps known.
    let load = (c.is_load.ensures t known.tables.events).0 c.if-not-is_load.false in
    let all = shows t steps known load in
    let among = c.in_ok-set_aside.ensures in
    let here : IsTrue is → EndHoldsBeside t steps c.args.aside.now (NoSource c.args.load) = (λ true. (
      subst (IsLoad t) (sym c.in-Some.ensures.0) load,
      λ r can. (among r).0 (all.0 true r (subst (λ n. CanRead t steps n r) c.in-Some.ensures.0 can)),
    )) in
    (here, λ holds. all.1 (λ r can. (among r).1 (holds.1 r (subst (λ n. CanRead t steps n r) (sym c.in-Some.ensures.0) can)))))
    c.are_all.ensures
