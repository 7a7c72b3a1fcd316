use Rattle.std.proofs.Common.{◌≡◌, take, length}
use Rattle.refutation_check.specs.Internal.Pairs.{IsKept}
use Rattle.refutation_check.proofs.pairs.PairsInForce.cut.Given as goal

abbrev pub invariant-loop-self : goal.invariant-loop-self
invariant-loop-self l = record {
  kept : IsKept l.self;
  nodes : l.self.table.nodes ≡ l.fn.self.table.nodes;
  pairs : take l.count l.self.pairs.items ≡ take l.count l.fn.self.pairs.items;
  cases : l.self.cases.items ≡ l.fn.self.cases.items;
}

abbrev pub decreases-loop-self : goal.decreases-loop-self
decreases-loop-self l = length l.self.pairs.items
