-- The names by which kinds of faulty units are asked for, which their designs have too.
use Rattle.std.specs.Prelude.{ℕ, List, codes}
use Rattle.request_options.specs.declared.faults.FaultKind.{FaultKind}
use Rattle.request_options.specs.declared.faults.FaultKind.TheVariants.{NewestFirst, NoForward, StaleLoad, TornSwap, IdleMembar, LostDrain}

-- the names of the kinds
abbrev pub fault_name : FaultKind → List ℕ
fault_name NewestFirst = codes "newest-first"
fault_name NoForward = codes "no-forward"
fault_name StaleLoad = codes "stale-load"
fault_name TornSwap = codes "torn-swap"
fault_name IdleMembar = codes "idle-membar"
fault_name LostDrain = codes "lost-drain"
