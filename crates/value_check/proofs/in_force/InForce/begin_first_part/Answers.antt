use Rattle.std.proofs.Common.{sym, subst, arith}
use Rattle.std.proofs.lemmas.Result.{on_ok_weaker}
use Rattle.value_check.specs.Internal.InForce.{IsAt, with_step}
use Rattle.value_check.specs.Internal.Known.{IsOfEvents}
use Rattle.value_check.proofs.InForceFacts.{case_opened, with_case}
use Rattle.value_check.proofs.in_force.InForce.begin_first_part.Goals as goal

pub returns : goal.returns
returns c =
    let steps = c.args.self.now.steps in
    let aside = c.args.self.now.aside in
    on_ok_weaker c.add.result
    (λ added t p at of.
    subst (λ s. IsAt t c.add.new.self (with_step s (with_case c.args.supposes p))) c.step.ensures
    (added t (with_case c.args.supposes p) (case_opened t c.args.self.now p at c.push.new.self c.args.supposes c.len.result c.len-2.result (omega (arith, c.len.ensures, steps.ok.0, steps.ok.1)) (omega (arith, c.len-2.ensures, aside.ok.0, aside.ok.1)) c.in_ok-push.ensures.items of)
    (subst (IsOfEvents t) (sym c.step.ensures) of)))
    c.add.ensures
