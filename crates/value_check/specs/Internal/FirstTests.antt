-- Which events have the first values of their addresses.
use Rattle.std.specs.Prelude.{◌≡◌, ◌↔◌, ℕ, ◌<◌, Bool, false, IsTrue, List, length, get_or}
use Rattle.tso_ops.specs.Settings.{first_value}
use Rattle.program_chains.specs.declared.events.LogEvent.{LogEvent}
use Rattle.program_chains.specs.Internal.Keys.{event_in}

-- Of each event there is whether its value is the first value of its address.
pub record AreFirstTests (first : List (ℕ × ℕ)) (events : List LogEvent) (tests : List Bool) : Type 0 where
  pub sized : length tests ≡ length events
  pub told : (x : ℕ) → x < length events → IsTrue (get_or tests x false) ↔ ((event_in events x).value ≡ first_value first (event_in events x).a)
