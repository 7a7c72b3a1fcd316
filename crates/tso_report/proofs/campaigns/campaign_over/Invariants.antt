use Rattle.std.proofs.Common.{◌-◌, get_or, map}
use Rattle.tso_report.specs.Internal.Gathering.{no_unit}
use Rattle.tso_report.proofs.campaigns.campaign_over.Given as goal

abbrev pub ghosts-campaign_of : goal.ghosts-campaign_of
ghosts-campaign_of g a = record { unit_of = λ seed. get_or (map (λ unit. g.U.MemoryUnit.value_of unit) a.units.items) (seed - a.plan.first) no_unit }
