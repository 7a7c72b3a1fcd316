use Rattle.std.proofs.Common.{◌⊎◌, ◌≤◌, ◌<◌, ◌+◌, ◌*◌, inl, inr, ℕ, slice_index_or, refl, arith}
use Rattle.std.proofs.lemmas.Bool.{cases_lt}
use Rattle.bitsets.specs.Rows.{HasBit}
use Rattle.bitsets.proofs.TableFacts.{row_within, IsSet-at}
use Rattle.order_graph.proofs.TransposedBlocks.{TransposesBlock-start, TransposesBlock-set, TransposesBlock-row, TransposesBlock-end}
use Rattle.order_graph.proofs.transposing.transpose_block.Goals as goal
use Rattle.order_graph.proofs.transposing.transpose_block.Goals.{then-next-word, else-next-word}

pub loop-x-init : goal.loop-x-init
loop-x-init c = TransposesBlock-start c.args.transposed.now c.args.table.words.now c.args.table.width c.args.nodes c.args.i c.args.j

pub set_words-requires-clause-within : goal.set_words-requires-clause-within
set_words-requires-clause-within c = λ k h b.
    let a = c.args in
    omega (arith, row_within (64 * a.j + k) a.nodes a.table.width (c.loop-x.invariant.within k h b), c.requires.transposed_sized)

pub set_words-requires-2-clause-within : goal.set_words-requires-2-clause-within
set_words-requires-2-clause-within c = λ k h b.
    let a = c.args in
    omega (arith, row_within (64 * a.j + k) a.nodes a.table.width (c.loop-x.invariant.within k h b), c.requires.transposed_sized)

pub loop-x-preserved : goal.loop-x-preserved
loop-x-preserved c =
    let a = c.args in
    let next = slice_index_or a.table.words.now (c.loop-x.x * a.table.width + a.j) 0 in
    let within : (k : ℕ) → k < 64 → HasBit next k → 64 * a.j + k < a.nodes = λ k h b.
    c.requires.table.within c.loop-x.x (64 * a.j + k) (omega arith) (omega arith) ((IsSet-at a.table.words.now a.table.width c.loop-x.x a.j k h).1 b) in
    elim c.if-next-word.branch [
      | then-next-word w ↦ rw (w.transposed-is, w.word-is, w.rows-is) (TransposesBlock-row a.transposed.now w.set_words.new.table a.table.words.now a.table.width a.nodes a.i a.j c.loop-x.x next 0
          (TransposesBlock-set a.transposed.now c.loop-x.transposed w.set_words.new.table a.table.words.now a.table.width a.nodes a.i a.j c.loop-x.x c.loop-x.word c.loop-x.rows next c.loop-x.invariant w.set_words.ensures.added within)
          refl (omega arith))
      | else-next-word w ↦ rw (w.transposed-is, w.word-is, w.rows-is) (TransposesBlock-row a.transposed.now c.loop-x.transposed a.table.words.now a.table.width a.nodes a.i a.j c.loop-x.x c.loop-x.word c.loop-x.rows c.loop-x.invariant
          (omega (arith, w.if-next-word.false)) (omega arith))
    ]

pub returns : goal.returns
returns c =
    let a = c.args in
    let past : (a.nodes ≤ c.loop-x.x) ⊎ (64 * a.i + 64 ≤ c.loop-x.x) = elim (cases_lt c.loop-x.x a.nodes) [
      | inl less ↦ inr (omega (arith, less, c.min-x-end.ensures))
      | inr all ↦ inl all
    ] in
    TransposesBlock-end a.transposed.now c.loop-x.transposed c.set_words-2.new.table a.table.words.now a.table.width a.nodes a.i a.j c.loop-x.x c.loop-x.word c.loop-x.rows c.loop-x.invariant
    (omega (arith, c.min-x-end.ensures)) past c.set_words-2.ensures.added
