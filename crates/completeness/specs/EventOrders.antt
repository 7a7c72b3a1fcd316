-- Orders of the numbers of a trace's events.
use Rattle.std.specs.Prelude.{ℕ, ◌≤◌}
use Rattle.tso_ops.specs.Values.{TraceValue}
use Rattle.tso_ops.specs.Events.{event_total}

-- the relation has numbers of events and 0, which stands for `init`, alone
abbrev pub HasEventsAlone : TraceValue → (ℕ → ℕ → Type 0) → Type 0
HasEventsAlone t Before = (u v : ℕ) → Before u v → (u ≤ event_total t) × (v ≤ event_total t)
