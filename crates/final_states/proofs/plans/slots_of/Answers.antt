use Rattle.std.proofs.Common.{arith}
use Rattle.final_states.proofs.PlanFacts.{slots-all, slots-next}
use Rattle.final_states.proofs.plans.slots_of.Goals as goal

pub loop-a-preserved : goal.loop-a-preserved
loop-a-preserved c = slots-next c.args.addresses.now c.loop-a.slots.items _ c.loop-a.a _ c.slot_in.ensures c.loop-a.invariant c.in_ok-push.ensures.items

pub returns : goal.returns
returns c = slots-all c.args.addresses.now c.loop-a.slots.items c.loop-a.a (omega arith) c.loop-a.invariant
