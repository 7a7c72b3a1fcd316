use Rattle.std.proofs.Common.{◌∙◌, ◌+◌, get_or, sym, subst, refl}
use Rattle.std.proofs.lemmas.Bool.{false≢true}
use Rattle.chain_rules.specs.Internal.Lowering.{AreLeft}
use Rattle.chain_rules.proofs.RowFacts.{AreLeft-push, AreLeft-pass}
use Rattle.chain_rules.proofs.rows.new_numbers.Goals as goal
use Rattle.chain_rules.proofs.rows.new_numbers.Goals.{then-is_left+in_ok-push, else-is_left}

pub loop-d-preserved : goal.loop-d-preserved
loop-d-preserved c = elim c.if-is_left.branch [
  | then-is_left+in_ok-push w ↦
      subst (λ row. AreLeft c.args.reach.now c.args.u c.args.least.now (c.loop-d.d + 1) row.items) (sym w.row-is)
      (subst (λ items. AreLeft c.args.reach.now c.args.u c.args.least.now (c.loop-d.d + 1) items) (sym w.in_ok-push.ensures.items)
      (AreLeft-push c.args.reach.now c.args.u c.args.least.now c.loop-d.d (get_or c.args.least.now c.loop-d.d 0) c.loop-d.row.items c.loop-d.invariant refl (c.is_left.ensures.0 w.if-is_left.true)))
  | else-is_left w ↦
      subst (λ row. AreLeft c.args.reach.now c.args.u c.args.least.now (c.loop-d.d + 1) row.items) (sym w.row-is)
      (AreLeft-pass c.args.reach.now c.args.u c.args.least.now c.loop-d.d c.loop-d.row.items c.loop-d.invariant (λ is. false≢true (sym w.if-is_left.false ∙ c.is_left.ensures.1 is)))
]
