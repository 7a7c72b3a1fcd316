use Rattle.std.proofs.Common.{◌≡◌, ◌+◌, ◌*◌, ◌/◌, ◌%◌, ◌^◌, inl, inr, slice_index_or, bit_or, arith}
use Rattle.bitsets.proofs.TableFacts.{Adds-written, Adds-iff}
use Rattle.bitsets.proofs.WordFacts.{HasBit-set}
use Rattle.bitsets.proofs.tables.set_bit.Goals as goal

pub returns : goal.returns
returns c =
    let table = c.args.table.now in
    let word = slice_index_or table (c.args.x * c.args.width + c.args.y / 64) 0 in
    Adds-iff _ _ c.args.width _ _
    (λ i j. (λ p. (p.0, omega (arith, p.1, p.2)), λ p. (p.0, omega (arith, p.1), omega (arith, p.1))))
    (Adds-written table c.args.width c.args.x (c.args.y / 64) (bit_or word (1 * 2 ^ (c.args.y % 64) % 2 ^ 64)) (λ k. k ≡ c.args.y % 64) c.requires.column (omega (arith, c.requires.column, c.requires.row))
    (λ k h. let set = HasBit-set word (c.args.y % 64) k (omega arith) in
    (λ b. elim (set.0 b) [ inl e ↦ inr e | inr b' ↦ inl b' ], λ s. set.1 (elim s [ inl b' ↦ inr b' | inr e ↦ inl e ]))))
