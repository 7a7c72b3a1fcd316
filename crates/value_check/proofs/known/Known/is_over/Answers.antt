use Rattle.std.proofs.Common.{refl, sym, subst, suc, slice_index, below_more, arith}
use Rattle.std.proofs.lemmas.List.Elements.{Contains-get_or}
use Rattle.chain_reach.specs.Leading.{Leads}
use Rattle.value_check.specs.Internal.Settling.{AreLastSeen}
use Rattle.value_check.proofs.AnswerFacts.{not_so, refuses}
use Rattle.value_check.proofs.CellFacts.{index_of}
use Rattle.value_check.proofs.SettlingFacts.{over_last}
use Rattle.value_check.proofs.known.Known.is_over.Goals as goal

pub loop-seen-preserved : goal.loop-seen-preserved
loop-seen-preserved c =
    below_more _ _ c.loop-seen.invariant
    (not_so c.leads.result (Leads c.args.self.now.reach c.args.store (slice_index c.deref-seen-items.result.now c.loop-seen.seen-index)) c.leads.ensures c.if-leads.false)

pub returns-then-leads : goal.returns-then-leads
returns-then-leads c = λ t steps known seen. (
  λ is.
      let stores = c.deref-seen-items.result.now in
      let all = subst (AreLastSeen t steps c.args.question.now.load) (sym c.deref-seen-items.ensures.value) seen in
      let w = slice_index stores c.loop-seen.seen-index in
      (suc w, all.seen w (Contains-get_or stores c.loop-seen.seen-index 0 c.loop-seen-test.true), (known.leads c.args.store w).0 (c.leads.ensures.0 c.if-leads.true)),
  λ over. refl,
)

pub returns : goal.returns
returns c = λ t steps known seen.
    refuses (λ over.
    let stores = c.deref-seen-items.result.now in
    let all = subst (AreLastSeen t steps c.args.question.now.load) (sym c.deref-seen-items.ensures.value) seen in
    let last = over_last t steps c.args.question.now.load c.args.store stores all over in
    let at = index_of stores last.0 last.1 in
    let path = (known.leads c.args.store last.0).1 last.2 in
    c.loop-seen.invariant at.0 (omega (arith, at.1)) (subst (Leads c.args.self.now.reach c.args.store) (sym at.2) path))
