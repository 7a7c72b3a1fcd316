use Rattle.std.proofs.Common.{◌∙◌, arith, suc}
use Rattle.std.proofs.lemmas.Option.{slice_get-get_or}
use Rattle.tso_ops.proofs.TableFacts.{AreFirstRows-none, AreFirstRows-push, AreSources-from_rows, event_at-suc}
use Rattle.tso_ops.proofs.tables.list_sources.Goals as goal

pub loop-event-init : goal.loop-event-init
loop-event-init c t trace first is = AreFirstRows-none t _ c.new-sources.ensures.items

pub loop-event-preserved : goal.loop-event-preserved
loop-event-preserved c t trace first is =
    let i = c.loop-event.event-index in
    let at = event_at-suc t c.args.events.now is i ∙ slice_get-get_or c.args.events.now i _ c.loop-event-test.true in
    AreFirstRows-push t _ _ _ i (c.loop-event.invariant t trace first is) c.in_ok-push.ensures.items (c.source_of.ensures t (suc i) trace first is at)

pub returns : goal.returns
returns c t trace first is = AreSources-from_rows t _ _ c.args.events.now is (c.loop-event.invariant t trace first is) (omega arith)
