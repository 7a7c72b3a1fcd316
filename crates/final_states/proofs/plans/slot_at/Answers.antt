use Rattle.std.proofs.Common.{◌∙◌, arith}
use Rattle.final_states.proofs.MoveFacts.{slot-read, slots-count}
use Rattle.final_states.proofs.plans.slot_at.Goals as goal

pub index-requires : goal.index-requires
index-requires c = omega (arith, slots-count c.args.plan.now.addresses.items c.args.plan.now.slots.items c.requires.plan.slots, c.requires.a)

pub returns : goal.returns
returns c = c.index.ensures ∙ slot-read c.args.plan.now.addresses.items c.args.plan.now.slots.items c.args.a _ c.requires.plan.slots c.requires.a
