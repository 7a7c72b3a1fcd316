use Rattle.std.proofs.Common.{◌<◌, suc, subst, arith}
use Rattle.std.specs.Result.{IfOk}
use Rattle.bitsets.specs.Rows.{HasNumber, IsListOf}
use Rattle.tso_ops.specs.Events.{event_total}
use Rattle.tso_ops.proofs.EventFacts.{event_total-most}
use Rattle.tso_model.specs.Ranks.{RankSet}
use Rattle.tso_model.proofs.Bounds.{RankSet-within}
use Rattle.bitsets.proofs.ListFacts.{listed_as}
use Rattle.tso_rules.proofs.base.base_row.Goals as goal

pub marked-requires-clause-small : goal.marked-requires-clause-small
marked-requires-clause-small c = omega (arith, c.node_count.ensures.count, event_total-most c.args.trace.now c.events-events.ensures.kept)

pub marked-requires-clause-within : goal.marked-requires-clause-within
marked-requires-clause-within c = λ v has.
    let to = (c.in_ok-base_words.ensures v).0 (subst (λ m. HasNumber m v) c.deref.ensures.value has) in
    let low : v < suc (event_total c.args.trace.now) = (RankSet-within c.args.trace.now 0 c.args.u v to).1 in
    omega (arith, low, c.node_count.ensures.count)

pub returns : goal.returns
returns c =
    listed_as c.marked.result c.in_ok-base_words.field-0.items (RankSet c.args.trace.now 0 c.args.u) c.in_ok-base_words.ensures
    (subst (λ m. IfOk c.marked.result (λ row. IsListOf row.items (HasNumber m))) c.deref.ensures.value c.marked.ensures)
