use Rattle.std.proofs.Common.{subst}
use Rattle.log_selections.specs.Sources.{IsAmbiguousCount}
use Rattle.log_selections.proofs.known.KnownLog.ambiguous_loads.Goals as goal

pub returns : goal.returns
returns c = subst (λ log. IsAmbiguousCount log c.self.inside.sources.ambiguous) c.self.view_is c.self.invariant.ambiguous_are
