use Rattle.std.proofs.Common.{suc, arith}
use Rattle.bitsets.proofs.TableFacts.{row_within}
use Rattle.tso_ops.specs.Events.{event_total}
use Rattle.tso_ops.proofs.NumberFacts.{IsLoad-within}
use Rattle.tso_rules.proofs.SourceMaskFacts.{adds_later, adds_no_later}
use Rattle.tso_rules.proofs.masks.add_later.Goals as goal

pub copy_row-requires-clause-from : goal.copy_row-requires-clause-from
copy_row-requires-clause-from c =
    let t = c.args.trace.now in
    omega (arith, row_within c.in-Some.next (suc (event_total t)) c.args.width (IsLoad-within t c.in-Some.next c.in-Some.ensures.0.0), c.requires.later.sized)

pub returns-in-Some : goal.returns-in-Some
returns-in-Some c =
    adds_later c.args.trace.now c.args.words.now c.copy_row.new.table c.args.width c.args.load c.in-Some.next c.requires.later c.in-Some.ensures c.copy_row.ensures

pub returns-in_default : goal.returns-in_default
returns-in_default c = adds_no_later c.args.trace.now c.args.words.now c.args.width c.args.load c.in_default.ensures
