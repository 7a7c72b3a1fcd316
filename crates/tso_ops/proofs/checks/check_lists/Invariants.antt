use Rattle.std.proofs.Common.{map, take, All}
use Rattle.std.specs.List.{flat_map}
use Rattle.tso_ops.specs.Settings.{setting_of}
use Rattle.tso_ops.specs.Tally.{Admitted}
use Rattle.tso_ops.proofs.checks.check_lists.Given as goal

abbrev pub invariant-loop-list : goal.invariant-loop-list
invariant-loop-list g l =
    Admitted (setting_of l.setting) l.tally (flat_map (λ row. map g.T.Operation.op row.items) (take l.list-index l.lists))
    × All g.T.Operation.fits (flat_map (λ row. row.items) (take l.list-index l.lists))
