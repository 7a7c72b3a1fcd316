use Rattle.std.proofs.lemmas.List.{map-append}
use Rattle.tso_ops.specs.Values.{rows}
use Rattle.unit_core.proofs.OutcomeFacts.{lists_from-push, reads-push}
use Rattle.unit_core.proofs.records.list_outcomes.Goals as goal

pub loop-p-preserved : goal.loop-p-preserved
loop-p-preserved c =
    let list = c.in_ok-outcomes_of_one.field-0.items in
    rw (c.in_ok-push.ensures.items, map-append) record {
      are = lists_from-push c.loop-p.p c.args.steps.now (rows c.loop-p.lists.items) list c.loop-p.invariant.are c.in_ok-outcomes_of_one.ensures.are;
      fits = reads-push (rows c.loop-p.lists.items) list c.loop-p.invariant.fits c.in_ok-outcomes_of_one.ensures.fits;
    }
