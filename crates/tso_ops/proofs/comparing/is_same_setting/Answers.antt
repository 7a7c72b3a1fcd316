use Rattle.std.proofs.Common.{◌∙◌, sym}
use Rattle.std.proofs.lemmas.Bool.{false≢true}
use Rattle.tso_ops.proofs.SameFacts.{version-same, order-same, setting-Decides, entries-Decides}
use Rattle.tso_ops.proofs.comparing.is_same_setting.Goals as goal
use Rattle.tso_ops.proofs.comparing.is_same_setting.Goals.{then-eq, else-eq}

pub returns-then-eq-2 : goal.returns-then-eq-2
returns-then-eq-2 c = elim c.if-eq.branch [
  | then-eq w ↦ setting-Decides c.args.one.now c.args.other.now c.eq-then-eq-2.result
      (version-same c.args.one.now.version c.args.other.now.version (sym c.eq.ensures ∙ w.if-eq.true))
      (order-same c.args.one.now.order c.args.other.now.order (sym w.eq-then-eq.ensures ∙ sym w.value-is ∙ c.if-eq-2.true))
      (entries-Decides c.args.one.now.first.items c.args.other.now.first.items c.eq-then-eq-2.result c.eq-then-eq-2.ensures)
  | else-eq w ↦ absurd (false≢true (sym w.if-eq.false ∙ sym w.value-is ∙ c.if-eq-2.true))
]
