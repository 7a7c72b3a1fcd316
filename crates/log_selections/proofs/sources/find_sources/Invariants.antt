use Rattle.std.proofs.Common.{◌≡◌, ◌≤◌, suc, length}
use Rattle.log_selections.specs.Sources.{IsCountOf}
use Rattle.log_selections.specs.Internal.Known.{AreSources}
use Rattle.log_selections.proofs.CountFacts.{AreListedTo, IsAmbiguousTo}
use Rattle.log_selections.proofs.sources.find_sources.Given as goal

abbrev pub invariant-loop-access : goal.invariant-loop-access
invariant-loop-access l = record {
  numbers : (length l.sources.numbers.items ≡ suc l.access-index) × AreSources l.first l.accesses l.sources.numbers.items;
  few : l.sources.ambiguous ≤ l.access-index;
  ambiguous : IsCountOf (IsAmbiguousTo l.first l.accesses l.access-index) l.sources.ambiguous;
  unwritten : AreListedTo l.first l.accesses l.access-index l.sources.unwritten.items;
}
