use Rattle.std.proofs.Common.{◌∙◌, ◌++◌, ◌+◌, ap, sym, drop, append_assoc}
use Rattle.std.proofs.lemmas.List.{append-nil}
use Rattle.tso_ops.specs.Values.{rows}
use Rattle.tso_ops.specs.Events.{events_from, events_of_lists}
use Rattle.tso_ops.proofs.TableFacts.{events-next, events-all}
use Rattle.tso_ops.proofs.tables.list_events.Goals as goal

pub loop-proc-init : goal.loop-proc-init
loop-proc-init c = ap (λ prefix. prefix ++ events_of_lists 0 (rows c.args.lists.now)) c.new-events.ensures.items

pub loop-proc-preserved : goal.loop-proc-preserved
loop-proc-preserved c =
    let i = c.loop-proc.proc in
    let lists = c.args.lists.now in
    let rest = events_of_lists (i + 1) (drop (i + 1) (rows lists)) in
    ap (λ prefix. prefix ++ rest) (c.in_ok-push_events.ensures ∙ ap (λ row. c.loop-proc.events.items ++ events_from i 0 0 row) c.deref.ensures.value)
    ∙ append_assoc c.loop-proc.events.items _ rest
    ∙ ap (λ more. c.loop-proc.events.items ++ more) (sym (events-next lists i c.index-lists-proc.result c.loop-proc-test.true c.index-lists-proc.is))
    ∙ c.loop-proc.invariant

pub returns : goal.returns
returns c =
    sym (append-nil c.loop-proc.events.items)
    ∙ ap (λ more. c.loop-proc.events.items ++ more) (sym (events-all c.args.lists.now c.loop-proc.proc c.loop-proc-test.false))
    ∙ c.loop-proc.invariant
