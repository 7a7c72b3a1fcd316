use Rattle.std.proofs.Common.{◌∙◌, ap, arith}
use Rattle.final_states.proofs.PlanFacts.{address-fails, address-passes, addresses-all}
use Rattle.final_states.proofs.plans.addresses_of.Goals as goal
use Rattle.final_states.proofs.plans.addresses_of.Goals.{then-is_stored+in_ok-push, else-is_stored}

pub loop-a-preserved : goal.loop-a-preserved
loop-a-preserved c =
    elim c.if-is_stored.branch [
      | then-is_stored+in_ok-push w ↦
          address-passes c.args.program.now c.loop-a.addresses.items c.if-is_stored.addresses.items c.loop-a.a _ c.is_stored.ensures w.if-is_stored.true c.loop-a.invariant
          (ap (λ v. v.items) w.addresses-is ∙ w.in_ok-push.ensures.items)
      | else-is_stored w ↦
          address-fails c.args.program.now c.loop-a.addresses.items c.if-is_stored.addresses.items c.loop-a.a _ c.is_stored.ensures w.if-is_stored.false c.loop-a.invariant
          (ap (λ v. v.items) w.addresses-is)
    ]

pub returns : goal.returns
returns c = addresses-all c.args.program.now c.loop-a.addresses.items c.loop-a.a (omega arith) c.loop-a.invariant
