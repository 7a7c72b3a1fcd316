use Rattle.std.proofs.Common.{◌≡◌, ℕ, ◌<◌, [], length, slice_index}
use Rattle.tso_ops.specs.Settings.{first_value}
use Rattle.unit_core.specs.Units.{KeepsAllButFirst}
use Rattle.unit_core.proofs.presets.preset_all.Given as goal

abbrev pub invariant-loop-a : goal.invariant-loop-a
invariant-loop-a g l = record {
  addresses : length (g.U.MemoryUnit.value_of l.unit).first ≡ 256;
  values : (a : ℕ) → a < l.a → slice_index (g.U.MemoryUnit.value_of l.unit).first a ≡ first_value l.program.setting.first a;
  others : KeepsAllButFirst (g.U.MemoryUnit.value_of l.fn.unit) (g.U.MemoryUnit.value_of l.unit);
  untouched : (g.U.MemoryUnit.value_of l.unit).steps ≡ [];
}
