use Rattle.std.proofs.Common.{suc, ◌<◌, sym, ◌∙◌, arith}
use Rattle.order_graph.specs.Digraphs.{IsEdge}
use Rattle.bitsets.proofs.TableFacts.{row_within}
use Rattle.tso_ops.specs.Events.{event_total}
use Rattle.tso_ops.proofs.NumberFacts.{IsLoad-within}
use Rattle.tso_rules.proofs.AboveFacts.{loads_small}
use Rattle.tso_rules.proofs.SourceMaskFacts.{mask_row}
use Rattle.tso_rules.proofs.PassedFacts.{passed_start, passed_more, passed_all}
use Rattle.tso_rules.proofs.over_base.mark_load_past_over_base.Goals as goal

pub loads-init : goal.loads-init
loads-init c = passed_start c.args.trace.now (IsEdge c.args.graph.now) c.args.u c.args.marks.now.items

pub first_above-requires : goal.first_above-requires
first_above-requires c = loads_small c.args.trace.now c.load_words-loads.result.now c.in-Some.event.a c.events-events.ensures.kept c.load_words-loads.ensures

pub sources_from-requires : goal.sources_from-requires
sources_from-requires c =
    let t = c.args.trace.now in
    let load = (c.load_words-loads.ensures.bits c.in-Some-first_above.load).0 c.in-Some-first_above.ensures.0.1 in
    let within = IsLoad-within t c.in-Some-first_above.load (load.0, load.1, load.2) in
    omega (arith, row_within c.in-Some-first_above.load (suc (event_total t)) c.args.masks.now.width within, c.requires.masks.sized)

pub loads-smaller : goal.loads-smaller
loads-smaller c =
    let t = c.args.trace.now in
    let load = (c.load_words-loads.ensures.bits c.in-Some-first_above.load).0 c.in-Some-first_above.ensures.0.1 in
    let within : c.in-Some-first_above.load < suc (event_total t) = IsLoad-within t c.in-Some-first_above.load (load.0, load.1, load.2) in
    let above : c.loads.last < c.in-Some-first_above.load = c.in-Some-first_above.ensures.0.0 in
    omega (arith, within, above)

pub loads-preserved : goal.loads-preserved
loads-preserved c =
    let t = c.args.trace.now in
    let loads = c.load_words-loads.result.now in
    let found = c.in-Some-first_above.ensures in
    let load = (c.load_words-loads.ensures.bits c.in-Some-first_above.load).0 found.0.1 in
    passed_more t (IsEdge c.args.graph.now) c.args.u c.in-Some.event loads c.path_row-reached.result.now c.processor_row.result.now c.sources_from.result.now c.args.marks.now.items
    c.loads.marks.items c.mark_unreached.new.marks.items c.loads.last c.in-Some-first_above.load
    (record { at = sym c.event.ensures ∙ c.in-Some.is; store = c.if-event.false; loads_are = c.load_words-loads.ensures; paths = c.path_row-reached.ensures.paths }) c.requires.base
    c.processor_row.ensures c.loads.invariant found
    (mask_row t c.args.masks.now c.sources_from.result.now c.in-Some-first_above.load c.requires.masks (load.0, load.1, load.2) c.sources_from.ensures) c.in_ok-mark_unreached.ensures

pub returns : goal.returns
returns c =
    passed_all c.args.trace.now (IsEdge c.args.graph.now) c.args.u c.in-Some.event c.load_words-loads.result.now c.path_row-reached.result.now c.processor_row.result.now
    c.args.marks.now.items c.loads.marks.items c.loads.last
    (record { at = sym c.event.ensures ∙ c.in-Some.is; store = c.if-event.false; loads_are = c.load_words-loads.ensures; paths = c.path_row-reached.ensures.paths })
    c.processor_row.ensures c.loads.invariant c.in_default-first_above.ensures
