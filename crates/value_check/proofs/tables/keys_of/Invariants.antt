use Rattle.std.proofs.Common.{◌≡◌, map, take}
use Rattle.value_check.specs.Internal.Known.{key_by}
use Rattle.value_check.proofs.tables.keys_of.Given as goal

-- the keys so far
abbrev pub invariant-loop-event : goal.invariant-loop-event
invariant-loop-event l = l.keys.items ≡ map (key_by l.by_value) (take l.event-index l.events)
