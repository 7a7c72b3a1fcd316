use Rattle.std.proofs.Common.{◌≡◌, ◌≢◌, ◌-◌, ◌≤◌, ℕ, get_or, replicate}
use Rattle.tso_ops.specs.declared.acts.Act.TheVariants.{Issue}
use Rattle.unit_core.specs.Internal.Replays.{FollowsActs, HasIssued}
use Rattle.unit_core.proofs.replays.issue_rest.Given as goal

abbrev pub invariant-loop-next : goal.invariant-loop-next
invariant-loop-next g l = record {
  start : get_or l.fn.issued l.p 0 ≤ l._next;
  at : get_or l.issued l.p 0 ≡ l._next;
  others : (q : ℕ) → q ≢ l.p → get_or l.issued q 0 ≡ get_or l.fn.issued q 0;
  issued : HasIssued l.program l.issued (g.U.MemoryUnit.value_of l.unit);
  follows : FollowsActs l.program (replicate (l._next - get_or l.fn.issued l.p 0) (Issue l.p)) l.fn.issued l.issued (g.U.MemoryUnit.value_of l.fn.unit) (g.U.MemoryUnit.value_of l.unit);
}
