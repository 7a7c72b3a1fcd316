use Rattle.std.proofs.Common.{arith}
use Rattle.bitsets.proofs.TableFacts.{Loses-written}
use Rattle.bitsets.proofs.tables.clear_bit.Goals as goal

pub returns : goal.returns
returns c = Loses-written c.args.table.now c.args.width c.args.x c.args.y c.requires.column (omega (arith, c.requires.column, c.requires.row))
