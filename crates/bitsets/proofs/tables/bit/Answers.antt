use Rattle.std.proofs.Common.{◌+◌, ◌*◌, ◌/◌, ◌%◌, sym, ◌∙◌, slice_index_or}
use Rattle.std.proofs.lemmas.Bool.{eqb-true, eq-eqb}
use Rattle.std.proofs.lemmas.Nat.Bits.{shr_and_one}
use Rattle.bitsets.specs.Rows.{HasBit}
use Rattle.bitsets.specs.Tables.{IsSet}
use Rattle.bitsets.proofs.tables.bit.Goals as goal

pub returns : goal.returns
unfolding HasBit IsSet
returns c =
    let word = slice_index_or c.args.table.words.now (c.args.x * c.args.table.width + c.args.y / 64) 0 in
    let same = shr_and_one word (c.args.y % 64) in
    (λ t. sym same ∙ eqb-true _ 1 t, λ s. eq-eqb _ 1 (same ∙ s))
