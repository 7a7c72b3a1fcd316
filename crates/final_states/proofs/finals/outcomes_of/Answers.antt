use Rattle.std.proofs.Common.{All, List, sym, subst, arith}
use Rattle.std.proofs.lemmas.List.Elements.{All-push}
use Rattle.tso_ops.specs.declared.ops.Op.TheVariants.{Ld}
use Rattle.tso_ops.specs.declared.ops.Outcome.{Outcome}
use Rattle.tso_ops.specs.Values.{ReadFits}
use Rattle.final_states.proofs.StateFacts.{outcomes-all, outcomes-next}
use Rattle.final_states.proofs.finals.outcomes_of.Goals as goal

pub loop-i-preserved : goal.loop-i-preserved
loop-i-preserved c = record {
  outcomes =
      outcomes-next c.args.ops.now c.args.marks.now c.loop-i.i (Ld 0) c.loop-i.outcomes.items _ _ c.loop-i-test.true c.requires c.loop-i.invariant.outcomes c.outcome_of.ensures.is c.in_ok-push.ensures.items;
  reads =
      let P : List Outcome → Type 0 = All ReadFits in
      subst P (sym c.in_ok-push.ensures.items) (All-push ReadFits c.loop-i.outcomes.items c.outcome_of.result c.loop-i.invariant.reads c.outcome_of.ensures.reads);
}

pub returns-clause-outcomes : goal.returns-clause-outcomes
returns-clause-outcomes c = outcomes-all c.args.ops.now c.args.marks.now c.loop-i.i c.loop-i.outcomes.items (omega arith) c.loop-i.invariant.outcomes
