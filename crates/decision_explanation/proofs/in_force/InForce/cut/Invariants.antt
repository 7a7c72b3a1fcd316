use Rattle.std.proofs.Common.{◌≡◌, take, length}
use Rattle.decision_explanation.specs.Internal.Standings.{IsKept}
use Rattle.decision_explanation.proofs.in_force.InForce.cut.Given as goal

abbrev pub invariant-loop-self : goal.invariant-loop-self
invariant-loop-self l = record {
  kept : IsKept l.self;
  log : take l.count l.self.log.items ≡ take l.count l.fn.self.log.items;
  next : l.self.next ≡ l.fn.self.next;
  cases : l.self.cases.items ≡ l.fn.self.cases.items;
}

abbrev pub decreases-loop-self : goal.decreases-loop-self
decreases-loop-self l = length l.self.log.items
