use Rattle.std.proofs.Common.{inl, inr, ◌/◌, arith}
use Rattle.std.proofs.lemmas.Bool.{cases_lt}
use Rattle.bitsets.proofs.SharedFacts.{used_more}
use Rattle.bitsets.proofs.shared.used_words.Goals as goal
use Rattle.bitsets.proofs.shared.used_words.Goals.{then-table-row-ne0, else-table-row-ne0}

pub loop-j-preserved : goal.loop-j-preserved
loop-j-preserved c = elim c.if-table-row-ne0.branch [
  | then-table-row-ne0 w ↦ rw (w.low-is, w.high-is) (
    omega arith,
    λ y h s. elim (cases_lt (y / 64) c.loop-j.j) [
      | inl before ↦ (let p = c.loop-j.invariant.1 y before s in (omega (arith, p.0, w.min-low.ensures), omega (arith, p.1, c.loop-j.invariant.0)))
      | inr here ↦ (omega (arith, here, w.min-low.ensures), omega (arith, h))
    ],
  )
  | else-table-row-ne0 w ↦ rw (w.low-is, w.high-is) (omega (arith, c.loop-j.invariant.0), used_more c.args.table.words.now c.args.row c.args.table.width c.loop-j.j c.loop-j.low c.loop-j.high c.loop-j.invariant.1 (omega arith))
]
