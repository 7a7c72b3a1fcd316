use Rattle.std.proofs.Common.{IfSome, arith, subst}
use Rattle.tso_ops.specs.Values.{rows}
use Rattle.log_selections.specs.Shown.{IsLineOf}
use Rattle.log_selections.proofs.ShownFacts.{more_lines, no_lines}
use Rattle.log_selections.proofs.shown.show_places.Goals as goal

pub loop-place-init : goal.loop-place-init
loop-place-init c = no_lines (rows c.args.lists.now) c.new-shown.result.items c.new-shown.ensures.items

pub loop-place-preserved : goal.loop-place-preserved
loop-place-preserved c = more_lines (rows c.args.lists.now) c.loop-place.shown.items c.push.new.self.items c.loop-place.line c.in-Some.next c.in_ok-push.ensures.items (omega (arith, c.if-next-line.false)) (subst (λ found. IfSome found (IsLineOf (rows c.args.lists.now))) c.in-Some.is c.shown_at.ensures) c.loop-place.invariant
