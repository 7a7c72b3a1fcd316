use Rattle.std.proofs.Common.{◌≤◌, ◌+◌, ◌^◌, All, length, map, ◌≡◌, []}
use Rattle.std.specs.Vec.Iter.{into_iter_items}
use Rattle.tso_report.specs.Internal.Gathering.{AreUnitsFrom}
use Rattle.tso_report.specs.Limits.{seed_count_limit}
use Rattle.tso_report.proofs.campaigns.workers.send_jobs.Given as goal

abbrev pub invariant-loop-unit : goal.invariant-loop-unit
invariant-loop-unit g l =
    (goal.iterator-loop-unit g).can_next l.unit-iterator ×
    (goal.iterator-loop-unit g).is_finite l.unit-iterator ×
    (l.first + l.after + length (into_iter_items l.unit-iterator) ≤ 2 ^ 64) ×
    (l.after + length (into_iter_items l.unit-iterator) ≤ seed_count_limit) ×
    All (λ unit. (g.U.MemoryUnit.value_of unit).steps ≡ []) (into_iter_items l.unit-iterator) ×
    AreUnitsFrom g.S.SeedUnits.unit_of (l.first + l.after) (map (λ unit. g.U.MemoryUnit.value_of unit) (into_iter_items l.unit-iterator))
