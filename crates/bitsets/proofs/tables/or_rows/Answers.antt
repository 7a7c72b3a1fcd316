use Rattle.std.proofs.Common.{◌≡◌, subst, arith}
use Rattle.std.specs.Int.{trailing_zeros, w64}
use Rattle.bitsets.proofs.WordFacts.{HasBit-lowest, clear_less}
use Rattle.bitsets.proofs.FillFacts.{Gathers, Gathers-step, Gathers-end}
use Rattle.bitsets.proofs.tables.or_rows.Goals as goal

pub or_row-requires-clause-other_row : goal.or_row-requires-clause-other_row
or_row-requires-clause-other_row c =
    let low = HasBit-lowest c.loop-left.left (omega arith) (omega arith) in
    c.requires.within (trailing_zeros w64 c.loop-left.left) low.0 (c.loop-left.invariant.some _ low.0 low.1)

pub loop-left-smaller : goal.loop-left-smaller
loop-left-smaller c =
    let low = HasBit-lowest c.loop-left.left (omega arith) (omega arith) in
    clear_less c.loop-left.left (trailing_zeros w64 c.loop-left.left) low.0 low.1

pub loop-left-preserved : goal.loop-left-preserved
loop-left-preserved c =
    Gathers-step c.args.table.now c.loop-left.table c.or_row.new.table c.args.other.words.now c.args.other.width c.args.row c.args.i c.args.first c.args.rows c.loop-left.left
    c.loop-left.invariant (omega arith) (omega arith) c.or_row.ensures

pub returns : goal.returns
returns c =
    let done : c.loop-left.left ≡ 0 = omega arith in
    Gathers-end c.args.table.now c.loop-left.table c.args.other.words.now c.args.other.width c.args.row c.args.i c.args.first c.args.rows
    (subst (λ n. Gathers c.args.table.now c.loop-left.table c.args.other.words.now c.args.other.width c.args.row c.args.i c.args.first c.args.rows n) done c.loop-left.invariant)
