use Rattle.std.proofs.Common.{◌∙◌, sym, subst, arith}
use Rattle.std.proofs.lemmas.Bool.{false≢true}
use Rattle.refutation_check.specs.Internal.Pairs.{IsTableOf}
use Rattle.refutation_check.proofs.PairFacts.{table_with}
use Rattle.refutation_check.proofs.pairs.PairsInForce.add.Goals as goal

pub returns-in_ok-push-clause-kept : goal.returns-in_ok-push-clause-kept
returns-in_ok-push-clause-kept c = record {
  some = omega (arith, c.add.ensures.nodes, c.requires.kept.some);
  table = subst (IsTableOf c.add.new.self) (sym c.in_ok-push.ensures.items)
      (table_with c.args.self.now.table c.add.new.self c.args.self.now.pairs.items c.args.from c.args.to c.requires.kept.table
      (λ one. false≢true (sym c.if-not-has.true ∙ c.has.ensures.1 ((c.requires.kept.table.set c.args.from c.args.to).1 one))) c.add.ensures.square c.add.ensures.pairs);
}
