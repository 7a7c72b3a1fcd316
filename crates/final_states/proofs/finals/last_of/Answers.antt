use Rattle.std.proofs.Common.{refl, arith}
use Rattle.std.proofs.lemmas.List.{get_or_read}
use Rattle.final_states.proofs.StateFacts.{last-all, last-next}
use Rattle.final_states.proofs.finals.last_of.Goals as goal

pub loop-k-preserved : goal.loop-k-preserved
loop-k-preserved c =
    last-next c.args.program.now c.args.plan.now c.args.words.now c.loop-k.k c.memory_at-start.result _ _ c.loop-k.last.items _ c.requires.width (omega (arith, c.len-k-end.ensures)) c.memory_at-start.ensures
    c.loop-k.invariant (get_or_read c.args.plan.now.addresses.items c.loop-k.k c.index.result.now (omega (arith, c.len-k-end.ensures)) c.index.ensures 0) refl c.in_ok-push.ensures.items

pub returns : goal.returns
returns c = last-all c.args.program.now c.args.plan.now c.args.words.now c.loop-k.k c.loop-k.last.items (omega (arith, c.len-k-end.ensures)) c.loop-k.invariant
