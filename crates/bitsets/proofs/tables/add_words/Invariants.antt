use Rattle.std.proofs.Common.{◌≡◌}
use Rattle.bitsets.specs.Rows.{HasNumber}
use Rattle.bitsets.proofs.TableFacts.{Leaves}
use Rattle.bitsets.proofs.FillFacts.{WordsFrom}
use Rattle.bitsets.proofs.tables.add_words.Given as goal

abbrev pub invariant-loop-j : goal.invariant-loop-j
invariant-loop-j l = Leaves l.initial.table l.table l.width (λ i y. (i ≡ l.x) × HasNumber l.words y) (WordsFrom l.words l.x l.j)
