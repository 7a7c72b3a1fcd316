use Rattle.std.proofs.Common.{◌≡◌, length}
use Rattle.tso_ops.specs.Limits.{KeepsEntries}
use Rattle.tso_text.specs.Internal.Begun.{HasEntries}
use Rattle.tso_text.proofs.preambles.read_entries.Given as goal

abbrev pub invariant-loop-line : goal.invariant-loop-line
invariant-loop-line l = record {
  version : l.setting.version ≡ l.fn.setting.version;
  order : l.setting.order ≡ l.fn.setting.order;
  read : HasEntries l.text l.setting.first.items l.lines l.rest;
  kept : KeepsEntries l.setting.first.items;
}

abbrev pub decreases-loop-line : goal.decreases-loop-line
decreases-loop-line l = length l.rest
