use Rattle.std.proofs.Common.{suc, arith}
use Rattle.bitsets.proofs.MarkFacts.{marks_none, marks_as, on_ok}
use Rattle.bitsets.proofs.TableFacts.{row_within}
use Rattle.tso_ops.specs.Events.{event_total}
use Rattle.tso_ops.proofs.NumberFacts.{IsLoad-within}
use Rattle.tso_rules.proofs.SourceMaskFacts.{own_masked, own_none}
use Rattle.tso_rules.proofs.masked_base.mark_masked_own.Goals as goal

pub sources_from-requires : goal.sources_from-requires
sources_from-requires c =
    let t = c.args.trace.now in
    let within = IsLoad-within t c.in-Some.next c.in-Some.ensures.0.0 in
    omega (arith, row_within c.in-Some.next (suc (event_total t)) c.args.masks.now.width within, c.requires.masks.sized)

pub returns-in-Some : goal.returns-in-Some
returns-in-Some c =
    let t = c.args.trace.now in
    let u = c.args.u in
    let store = c.is_store.ensures.0 c.if-not-is_store.false in
    on_ok c.mark_unreached.result _ _
    (λ marked. marks_as c.args.marks.now.items c.mark_unreached.new.marks.items _ _ marked
    (λ v. own_masked t c.args.masks.now c.sources_from.result.now u c.in-Some.next v c.requires.masks store c.in-Some.ensures c.sources_from.ensures))
    c.mark_unreached.ensures

pub returns-in-None : goal.returns-in-None
returns-in-None c = marks_none c.args.marks.now.items _ (λ v. own_none c.args.trace.now c.args.u v c.in-None.ensures)
