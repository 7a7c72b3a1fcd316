use Rattle.std.proofs.Common.{◌≡◌, take}
use Rattle.std.specs.List.{flat_map}
use Rattle.tso_ops.specs.Values.{rows}
use Rattle.value_texts.specs.Names.{names_in}
use Rattle.value_texts.proofs.names.names_of.Given as goal

abbrev pub invariant-loop-list : goal.invariant-loop-list
invariant-loop-list l = l.names.items ≡ flat_map (flat_map names_in) (take l.list-index (rows l.log.lists.items))
