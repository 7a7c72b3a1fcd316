use Rattle.std.proofs.Common.{◌≡◌, ◌≤◌, take}
use Rattle.std.specs.Prelude.{count_by, is_none}
use Rattle.command_line.proofs.found.inputs_among.Given as goal

abbrev pub invariant-loop-text : goal.invariant-loop-text
invariant-loop-text l = (l.count ≡ count_by is_none (take l.text-index l.texts)) × (l.count ≤ l.text-index)
