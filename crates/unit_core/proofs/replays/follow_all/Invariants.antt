use Rattle.std.proofs.Common.{take}
use Rattle.unit_core.specs.Internal.Replays.{FollowsActs, HasIssued}
use Rattle.unit_core.proofs.replays.follow_all.Given as goal

abbrev pub invariant-loop-act : goal.invariant-loop-act
invariant-loop-act g l = record {
  issued : HasIssued l.program l.issued (g.U.MemoryUnit.value_of l.unit);
  follows : FollowsActs l.program (take l.act-index l.schedule) l.fn.issued l.issued (g.U.MemoryUnit.value_of l.fn.unit) (g.U.MemoryUnit.value_of l.unit);
}
