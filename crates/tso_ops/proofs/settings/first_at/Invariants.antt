use Rattle.std.proofs.Common.{◌≡◌, drop}
use Rattle.tso_ops.specs.Settings.{first_value}
use Rattle.tso_ops.proofs.settings.first_at.Given as goal

-- the entries so far aren't of the address
abbrev pub invariant-loop-entry : goal.invariant-loop-entry
invariant-loop-entry l = first_value l.first l.a ≡ first_value (drop l.entry-index l.first) l.a
