use Rattle.std.proofs.Common.{inl, arith}
use Rattle.tso_rules.proofs.BaseFacts.{ordered_bit}
use Rattle.bitsets.proofs.WordFacts.{full_bit}
use Rattle.tso_rules.proofs.base.ordered_word.Goals as goal

pub returns-then-event : goal.returns-then-event
returns-then-event c = λ k low. (λ bit. inl c.if-event.true, λ is. full_bit k low)

pub returns-else-event : goal.returns-else-event
returns-else-event c = λ k low.
    ordered_bit c.args.trace.now c.args.event c.all_store_words.result.now c.stbar_words.result.now c.barrier_words.result.now c.args.j c.kept_word.result c.word_at-stores.result
    c.word_at-no_stbar.result c.word_at-no_barrier.result k low c.if-event.false (record {
      stores_are = c.all_store_words.ensures;
      stbars_are = c.stbar_words.ensures;
      barriers_are = c.barrier_words.ensures;
      kept_is = c.kept_word.ensures;
      store_word = c.word_at-stores.ensures;
      stbar_word = c.word_at-no_stbar.ensures;
      barrier_word = c.word_at-no_barrier.ensures;
      store_fits = omega arith;
      stbar_fits = omega arith;
      barrier_fits = omega arith;
    })
