use Rattle.std.proofs.Common.{inl, inr, subst, sym, ◌∙◌, arith}
use Rattle.std.proofs.lemmas.Bool.{cases_eq, cases_lt, or_parts}
use Rattle.acyclic_traces.specs.Internal.Pairs.{IsClosedForReads, IsClosedForSwap}
use Rattle.acyclic_traces.proofs.ReadFacts.{reads_past}
use Rattle.acyclic_traces.proofs.showing.add_by_events.Goals as goal

pub loop-l-preserved : goal.loop-l-preserved
loop-l-preserved c = λ nothing.
    let none = or_parts c.loop-l.added c.add_by_load-added.result nothing in
    let before = c.loop-l.invariant none.0 in (
      c.add_by_load-added.ensures.same none.1 ∙ before.0,
      λ n low. elim (cases_eq n c.loop-l.l) [
        | inl same ↦ subst (IsClosedForReads c.args.trace.now c.args.pairs.now) (sym same)
            (subst (λ rows. IsClosedForReads c.args.trace.now rows c.loop-l.l) before.0 (c.add_by_load-added.ensures.closed none.1))
        | inr other ↦ before.1 n (omega (arith, low, other))
      ],
    )

pub returns-clause-same : goal.returns-clause-same
returns-clause-same c = λ nothing.
    let none = or_parts c.loop-l.added c.add_by_swaps-by_swaps.result nothing in
    c.add_by_swaps-by_swaps.ensures.same none.1 ∙ (c.loop-l.invariant none.0).0

pub returns-clause-reads : goal.returns-clause-reads
returns-clause-reads c = λ nothing l.
    let none = or_parts c.loop-l.added c.add_by_swaps-by_swaps.result nothing in
    elim (cases_lt l c.loop-l.l) [
      | inl low ↦ (c.loop-l.invariant none.0).1 l low
      | inr past ↦ reads_past c.args.trace.now c.args.pairs.now l (omega (arith, past, c.loop-l-test.false, c.node_count-l-end.ensures.count))
    ]

pub returns-clause-swaps : goal.returns-clause-swaps
returns-clause-swaps c = λ nothing l.
    let none = or_parts c.loop-l.added c.add_by_swaps-by_swaps.result nothing in
    subst (λ rows. IsClosedForSwap c.args.trace.now rows l) (c.loop-l.invariant none.0).0 (c.add_by_swaps-by_swaps.ensures.closed none.1 l)
