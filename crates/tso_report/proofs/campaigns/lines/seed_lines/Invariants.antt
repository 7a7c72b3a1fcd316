use Rattle.std.proofs.Common.{◌≡◌, take, string_bytes}
use Rattle.tso_report.specs.Campaigns.{seed_lines}
use Rattle.tso_report.proofs.campaigns.lines.seed_lines.Given as goal

abbrev pub invariant-loop-i : goal.invariant-loop-i
invariant-loop-i l = string_bytes l.text ≡ seed_lines l.first (take l.i l.violations)
