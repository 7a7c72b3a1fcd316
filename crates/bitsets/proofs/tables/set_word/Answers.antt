use Rattle.std.proofs.Common.{◌+◌, ◌*◌, ◌%◌, ◌-◌, ◌^◌, slice_index_or, bit_or, arith, rules}
use Rattle.bitsets.specs.Rows.{HasBit}
use Rattle.bitsets.proofs.TableFacts.{Adds-written, IsSet-word}
use Rattle.bitsets.proofs.WordFacts.{HasBit-or, HasBit-and, HasBit-not}
use Rattle.bitsets.proofs.tables.set_word.Goals as goal

pub returns-clause-added : goal.returns-clause-added
returns-clause-added c =
    let table = c.args.table.now in
    let word = slice_index_or table (c.args.x * c.args.width + c.args.j) 0 in
    Adds-written table c.args.width c.args.x c.args.j (bit_or word c.args.given) (λ k. HasBit c.args.given k) c.requires.column (omega (arith, c.requires.column, c.requires.row))
    (λ k h. HasBit-or word c.args.given k)

pub returns-clause-fresh : goal.returns-clause-fresh
returns-clause-fresh c = λ y e.
    let table = c.args.table.now in
    let word = slice_index_or table (c.args.x * c.args.width + c.args.j) 0 in
    let both = HasBit-and c.args.given (2 ^ 64 - 1 - word) (y % 64) in
    let not = HasBit-not word (y % 64) (search rules) (omega arith) in
    let at = IsSet-word table c.args.width c.args.x c.args.j y e in
    (λ b. ((both.0 b).0, λ s. not.0 (both.0 b).1 (at.0 s)), λ p. both.1 (p.0, not.1 (λ b. p.1 (at.1 b))))
