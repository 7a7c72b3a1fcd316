use Rattle.std.proofs.Common.{refl}
use Rattle.std.proofs.lemmas.Bool.{false≢true}
use Rattle.cert_check.proofs.Facts.{not_listed_at_end, listed, not_listed_more, not_listed}
use Rattle.cert_check.proofs.pairs.is_step.Goals as goal
use Rattle.cert_check.proofs.pairs.is_step.Goals.{else-step-u-via-then-step-u+else-step-v, else-step-u-via-else-step-u}

pub loop-k-init : goal.loop-k-init
loop-k-init c = not_listed_at_end c.args.steps.now c.args.u c.args.v

pub returns-then-step-v : goal.returns-then-step-v
returns-then-step-v c =
    (λ _. listed c.args.steps.now c.args.u c.args.v c.loop-k.k c.index-steps-k.result c.loop-k-test.true c.loop-k.auto.k c.index-steps-k.is c.if-step-u.true c.if-step-v.true, λ _. refl)

pub loop-k-preserved : goal.loop-k-preserved
loop-k-preserved c =
    not_listed_more c.args.steps.now c.args.u c.args.v c.loop-k.k c.index-steps-k.result c.loop-k-test.true c.loop-k.auto.k c.index-steps-k.is
    (λ from to. elim c.else-step-u.branch [
      | else-step-u-via-then-step-u+else-step-v w ↦ w.if-step-v.false to
      | else-step-u-via-else-step-u w ↦ w.if-step-u.false from
    ])
    c.loop-k.invariant

pub returns : goal.returns
returns c =
    (λ e. absurd (false≢true e), λ step. absurd (not_listed c.args.steps.now c.args.u c.args.v c.loop-k.k c.loop-k-test.false c.loop-k.invariant step))
