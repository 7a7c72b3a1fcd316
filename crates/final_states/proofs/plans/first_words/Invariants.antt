use Rattle.std.proofs.Common.{◌≡◌, ◌++◌, map, replicate, take}
use Rattle.tso_ops.specs.Settings.{first_value}
use Rattle.final_states.specs.Internal.Words.{memory_start}
use Rattle.final_states.proofs.plans.first_words.Given as goal

abbrev pub invariant-loop-a : goal.invariant-loop-a
invariant-loop-a l = l.words.items ≡ replicate (memory_start l.program) 0 ++ map (first_value l.program.setting.first) (take l.a-index l.plan.addresses.items)
