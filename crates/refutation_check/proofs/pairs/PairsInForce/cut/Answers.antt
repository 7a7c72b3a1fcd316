use Rattle.std.proofs.Common.{◌∙◌, subst, arith, take, ap}
use Rattle.std.proofs.lemmas.List.{take-take}
use Rattle.refutation_check.specs.Internal.Pairs.{IsTableOf}
use Rattle.refutation_check.proofs.PairFacts.{last_within, table_without}
use Rattle.refutation_check.proofs.pairs.PairsInForce.cut.Goals as goal

pub remove-requires-clause-from : goal.remove-requires-clause-from
remove-requires-clause-from c =
    (last_within c.loop-self.self.table c.pop.new.self.items c.in-Some.pair (subst (IsTableOf c.loop-self.self.table) c.in-Some.ensures.items c.loop-self.invariant.kept.table)).0

pub remove-requires-clause-to : goal.remove-requires-clause-to
remove-requires-clause-to c =
    (last_within c.loop-self.self.table c.pop.new.self.items c.in-Some.pair (subst (IsTableOf c.loop-self.self.table) c.in-Some.ensures.items c.loop-self.invariant.kept.table)).1

pub loop-self-preserved-in-Some : goal.loop-self-preserved-in-Some
loop-self-preserved-in-Some c = record {
  kept = record {
    some = omega (arith, c.remove.ensures.nodes, c.loop-self.invariant.kept.some);
    table = table_without c.loop-self.self.table c.remove.new.self c.pop.new.self.items c.in-Some.pair
        (subst (IsTableOf c.loop-self.self.table) c.in-Some.ensures.items c.loop-self.invariant.kept.table) c.remove.ensures.square c.remove.ensures.pairs;
  };
  nodes = c.remove.ensures.nodes ∙ c.loop-self.invariant.nodes;
  pairs = ap (take c.args.count) c.pop.ensures.rest ∙ take-take c.args.count _ c.loop-self.self.pairs.items (omega (arith, c.loop-self-test.true, c.len.ensures))
      ∙ c.loop-self.invariant.pairs;
  cases = c.loop-self.invariant.cases;
}
