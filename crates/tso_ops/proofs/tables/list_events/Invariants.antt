use Rattle.std.proofs.Common.{◌≡◌, ◌++◌, drop}
use Rattle.tso_ops.specs.Values.{rows}
use Rattle.tso_ops.specs.Events.{events_of_lists}
use Rattle.tso_ops.proofs.tables.list_events.Given as goal

-- the events so far, and those of the lists that are left, are the events of all
abbrev pub invariant-loop-proc : goal.invariant-loop-proc
invariant-loop-proc l = l.events.items ++ events_of_lists l.proc (drop l.proc (rows l.lists)) ≡ events_of_lists 0 (rows l.lists)
