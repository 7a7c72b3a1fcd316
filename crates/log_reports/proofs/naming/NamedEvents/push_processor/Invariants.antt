use Rattle.std.proofs.Common.{◌++◌, List, take}
use Rattle.log_reports.specs.Internal.NamedEvents.{AreNames}
use Rattle.log_reports.specs.Namings.{EventName, event_names_of}
use Rattle.log_reports.proofs.naming.NamedEvents.push_processor.Given as goal

abbrev pub invariant-loop-s : goal.invariant-loop-s
invariant-loop-s l = (events : List EventName) → AreNames l.fn.self events → AreNames l.self (events ++ event_names_of l.fn.tags (take l.s-index l.fn.shown) l.fn.p)
