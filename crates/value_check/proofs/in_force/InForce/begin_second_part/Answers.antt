use Rattle.std.proofs.Common.{subst, sym, All, arith}
use Rattle.program_chains.specs.LogEvents.{log_trace}
use Rattle.value_check.specs.Internal.Known.{IsKnownBy, IsOfEvents}
use Rattle.value_check.proofs.InForceFacts.{none_open, second_part_begun}
use Rattle.value_check.proofs.in_force.InForce.begin_second_part.Goals as goal

pub returns-in_default : goal.returns-in_default
returns-in_default c = λ p at.
    let cases = c.args.self.now.cases in
    none_open (log_trace c.args.log.now) c.args.self.now p at c.pop.new.self c.in_default.ensures.items (omega (arith, c.in_default.ensures.cases.0, cases.ok.0, cases.ok.1))

pub returns : goal.returns
returns c = λ p at.
    let t = log_trace c.args.log.now in
    let cut = record c.args.self.now { steps = c.truncate.new.self; aside = c.truncate-2.new.self; cases = c.pop.new.self } in
    let all = c.deref.ensures.value in
    second_part_begun t c.args.self.now p at c.in-Some.case cut c.oppose.new.self c.in_ok-self.field-0 c.in-Some.ensures.items c.truncate.ensures.items c.truncate-2.ensures.items
    c.in_ok-oppose.ensures.place c.in_ok-oppose.ensures.cases (c.in_ok-oppose.ensures.events t)
    (λ events. subst (λ steps. IsKnownBy t steps c.in_ok-self.field-0) all (c.in_ok-self.ensures (subst (All (IsOfEvents t)) (sym all) events)))
