use Rattle.std.proofs.Common.{◌≡◌, ◌<◌, ◌↔◌, IsTrue, ℕ, false, length}
use Rattle.std.specs.Prelude.{get_or}
use Rattle.tso_ops.specs.Settings.{first_value}
use Rattle.program_chains.specs.Internal.Keys.{event_in}
use Rattle.value_check.proofs.tables.first_tests.Given as goal

-- the tests so far
abbrev pub invariant-loop-event : goal.invariant-loop-event
invariant-loop-event l =
    (length l.tests.items ≡ l.event-index)
    × ((x : ℕ) → x < l.event-index → IsTrue (get_or l.tests.items x false) ↔ ((event_in l.events x).value ≡ first_value l.first (event_in l.events x).a))
