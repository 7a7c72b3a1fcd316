use Rattle.std.proofs.Common.{◌≡◌, ◌<◌, ◌≤◌, ℕ, get_or, length, take}
use Rattle.tso_ops.specs.Values.{ops_at}
use Rattle.unit_core.specs.Internal.Replays.{FollowsActs, HasIssued, left_from}
use Rattle.unit_core.specs.Schedule.{issues_of}
use Rattle.unit_core.proofs.replays.issue_all.Given as goal

abbrev pub invariant-loop-p : goal.invariant-loop-p
invariant-loop-p g l = record {
  earlier : (q : ℕ) → q < l.p → get_or l.issued q 0 ≡ length (ops_at l.program q);
  later : (q : ℕ) → l.p ≤ q → get_or l.issued q 0 ≡ get_or l.fn.issued q 0;
  issued : HasIssued l.program l.issued (g.U.MemoryUnit.value_of l.unit);
  follows : FollowsActs l.program (issues_of 0 (left_from 0 l.fn.issued (take l.p l.program.lists))) l.fn.issued l.issued (g.U.MemoryUnit.value_of l.fn.unit) (g.U.MemoryUnit.value_of l.unit);
}
