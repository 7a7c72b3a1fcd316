use Rattle.std.proofs.Common.{◌≡◌, true, false, sym, subst, ◌∙◌, arith}
use Rattle.std.specs.Int.{trailing_zeros, w64}
use Rattle.tso_ops.specs.Events.{IsSwapLoad}
use Rattle.acyclic_traces.specs.Internal.Pairs.{IsClosedForSwap}
use Rattle.acyclic_traces.proofs.PairFacts.{looked_more, looked_all}
use Rattle.acyclic_traces.proofs.ReadFacts.{low_bit, closed_if_swap}
use Rattle.acyclic_traces.proofs.swaps.add_by_swaps.Goals.{then-add_by_swap, else-add_by_swap}
use Rattle.acyclic_traces.proofs.swaps.add_by_swaps.Goals as goal

pub loop-left-preserved : goal.loop-left-preserved
loop-left-preserved c = λ nothing. elim c.if-add_by_swap.branch [
  | then-add_by_swap w ↦ absurd (let clash : true ≡ false = sym w.added-is ∙ nothing in cc)
  | else-add_by_swap w ↦ (let before = c.loop-left.invariant (sym w.added-is ∙ nothing) in
      let none = w.if-add_by_swap.false in (
        c.add_by_swap.ensures.same none ∙ before.0,
        looked_more c.word_at-left.result c.loop-left.left (IsClosedForSwap c.args.trace.now c.args.pairs.now) (omega arith) (omega arith)
            (subst (λ rows. IsClosedForSwap c.args.trace.now rows (trailing_zeros w64 c.loop-left.left)) before.0 (c.add_by_swap.ensures.closed none))
            before.1,
      ))
]

pub returns-clause-closed : goal.returns-clause-closed
returns-clause-closed c = λ nothing l.
    let all = looked_all c.word_at-left.result c.loop-left.left (IsClosedForSwap c.args.trace.now c.args.pairs.now) (omega (arith, c.loop-left-test.false)) (c.loop-left.invariant nothing).1 in
    closed_if_swap c.args.trace.now c.args.pairs.now l c.requires (λ low swap. all l ((low_bit c.swap_load_words.result.now (IsSwapLoad c.args.trace.now) c.word_at-left.result l low c.swap_load_words.ensures c.word_at-left.ensures).1 swap))
