use Rattle.std.proofs.Common.{take, ◌∷◌, []}
use Rattle.std.proofs.lemmas.Option.{slice_get-get_or}
use Rattle.unit_core.proofs.OutcomeFacts.{take-next}
use Rattle.unit_core.proofs.ReplayFacts.{FollowsActs-then}
use Rattle.unit_core.proofs.replays.follow_all.Goals as goal

pub loop-act-preserved : goal.loop-act-preserved
loop-act-preserved g c =
    let more = take-next c.args.schedule.now c.loop-act.act-index _ (slice_get-get_or c.args.schedule.now c.loop-act.act-index _ c.loop-act-test.true) in
    record {
      issued = c.follow.ensures.issued;
      follows = rw more
          (FollowsActs-then c.args.program.now (take c.loop-act.act-index c.args.schedule.now) (_ ∷ []) c.args.issued.now c.loop-act.issued c.follow.new.issued
          (g.U.MemoryUnit.value_of c.args.unit.now) (g.U.MemoryUnit.value_of c.loop-act.unit) (g.U.MemoryUnit.value_of c.follow.new.unit) c.loop-act.invariant.follows
          c.in_ok-follow.ensures.follows);
    }
