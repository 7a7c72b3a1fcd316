use Rattle.std.proofs.Common.{◌≡◌, ℕ, ◌<◌, length, slice_index}
use Rattle.tso_ops.specs.Limits.{IsProgram}
use Rattle.final_states.specs.Internal.Words.{start_of}
use Rattle.final_states.proofs.plans.starts_of.Given as goal

abbrev pub invariant-loop-p : goal.invariant-loop-p
invariant-loop-p l = record {
  count : length l.starts.items ≡ l.p;
  each : (k : ℕ) → k < l.p → slice_index l.starts.items k ≡ start_of l.program.lists k;
  start : l.start ≡ start_of l.program.lists l.p;
  kept : IsProgram l.program;
}
