use Rattle.std.proofs.Common.{sym, ◌∙◌, arith}
use Rattle.std.proofs.lemmas.Bool.{false≢true}
use Rattle.bitsets.proofs.RowFacts.{below_next, below_last}
use Rattle.bitsets.proofs.rows.word_below.Goals as goal

pub returns-then-has_number : goal.returns-then-has_number
returns-then-has_number c = λ k low. below_next c.args.row.now c.args.j c.word_at-word.result k c.word_at-word.ensures low (c.has_number.ensures.0 c.if-has_number.true)

pub returns-else-has_number : goal.returns-else-has_number
returns-else-has_number c = λ k low.
    below_last c.args.row.now c.args.j c.word_at-word.result k c.word_at-word.ensures (omega arith) low (λ has. false≢true (sym c.if-has_number.false ∙ c.has_number.ensures.1 has))
