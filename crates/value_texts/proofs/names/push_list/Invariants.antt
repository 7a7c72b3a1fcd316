use Rattle.std.proofs.Common.{◌≡◌, ◌++◌, take}
use Rattle.std.specs.List.{flat_map}
use Rattle.value_texts.specs.Names.{names_in}
use Rattle.value_texts.proofs.names.push_list.Given as goal

abbrev pub invariant-loop-logged : goal.invariant-loop-logged
invariant-loop-logged l = l.names.items ≡ l.fn.names.items ++ flat_map names_in (take l.logged-index l.list)
