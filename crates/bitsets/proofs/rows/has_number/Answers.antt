use Rattle.bitsets.proofs.RowFacts.{number_bit}
use Rattle.bitsets.proofs.rows.has_number.Goals as goal

pub returns : goal.returns
returns c = number_bit c.args.row.now c.args.number c.word_at.result c.word_at.ensures
