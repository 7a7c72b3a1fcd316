-- The ranges of options that the command line lets through.
use Rattle.std.specs.Prelude.{◌≤◌}
use Rattle.command_line.specs.Requests.{capacity_limit}
use Rattle.command_line.specs.declared.options.CampaignOptions.{CampaignOptions}
use Rattle.command_line.specs.declared.options.RunOptions.{RunOptions}
use Rattle.command_line.specs.declared.options.UnitOptions.{UnitOptions}
use Rattle.trace_judging.specs.Limits.{HasWorkerRange}

abbrev pub IsUnitInRange : UnitOptions → Type 0
IsUnitInRange unit = (1 ≤ unit.capacity) × (unit.capacity ≤ capacity_limit) × (1 ≤ unit.trigger)

-- the options of a replay or a run
abbrev pub AreInRange : RunOptions → Type 0
AreInRange options = HasWorkerRange options.workers × IsUnitInRange options.unit

-- the options of a campaign
abbrev pub IsCampaignInRange : CampaignOptions → Type 0
IsCampaignInRange options = HasWorkerRange options.workers × IsUnitInRange options.unit
