use Rattle.std.proofs.Common.{◌≡◌, ◌++◌, ◌≤◌, drop}
use Rattle.tso_ops.specs.Events.{events_from}
use Rattle.tso_ops.proofs.tables.push_events.Given as goal

-- what is pushed, and the events of the operations that are left, are the events of all
abbrev pub invariant-loop-outcome : goal.invariant-loop-outcome
invariant-loop-outcome l =
    (l.events.items ++ events_from l.proc l.bars l.stbars (drop l.outcome-index l.list) ≡ l.fn.events.items ++ events_from l.proc 0 0 l.list)
    × (l.bars ≤ l.outcome-index)
    × (l.stbars ≤ l.outcome-index)
