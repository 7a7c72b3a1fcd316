use Rattle.std.proofs.Common.{refl, arith}
use Rattle.std.proofs.lemmas.Bool.{false≢true}
use Rattle.tso_ops.proofs.EventFacts.{event_total-most}
use Rattle.tso_ops.proofs.SwapFacts.{IsSwapLoad-within}
use Rattle.order_check.proofs.LeftFacts.{none_open, open_found}
use Rattle.order_check.proofs.axioms.is_no_swap_open.Goals as goal

pub word_below-requires : goal.word_below-requires
word_below-requires c = omega (arith, c.loop-j-test.true, c.events.ensures.count, event_total-most c.args.trace.now c.events.ensures.kept)

pub returns-then-open-ne0 : goal.returns-then-open-ne0
returns-then-open-ne0 c = (
  λ e. absurd (false≢true e),
  λ none. absurd (
      let (l, (swap, store, load)) = open_found c.swap_load_words-swaps.result.now c.args.left.now c.loop-j.j c.word_at.result c.word_below.result c.word_at-in-loop-j.result
      c.word_at.ensures c.word_below.ensures c.word_at-in-loop-j.ensures (omega arith) (omega arith) (omega arith) in
      none l ((c.swap_load_words-swaps.ensures.bits l).0 swap) load store),
)

pub loop-j-preserved : goal.loop-j-preserved
loop-j-preserved c = λ l below swap load store.
    none_open c.swap_load_words-swaps.result.now c.args.left.now c.loop-j.j c.word_at.result c.word_below.result c.word_at-in-loop-j.result
    c.word_at.ensures c.word_below.ensures c.word_at-in-loop-j.ensures (omega arith) (omega arith)
    (λ s before is. c.loop-j.invariant s before ((c.swap_load_words-swaps.ensures.bits s).0 is.0) is.2 is.1) l below ((c.swap_load_words-swaps.ensures.bits l).1 swap, store, load)

pub returns : goal.returns
returns c = (
  λ _. λ l swap load store. c.loop-j.invariant l (omega (arith, IsSwapLoad-within c.args.trace.now l swap, c.events.ensures.count, c.loop-j-test.false)) swap load store,
  λ _. refl,
)
