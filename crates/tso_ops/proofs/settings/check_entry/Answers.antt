use Rattle.tso_ops.proofs.EntryFacts.{out_of_order}
use Rattle.std.proofs.Common.{arith}
use Rattle.tso_ops.proofs.settings.check_entry.Goals as goal

pub returns-then-address-least-clause-refused : goal.returns-then-address-least-clause-refused
returns-then-address-least-clause-refused c before below =
    out_of_order before c.args.least c.args.address c.args.value below (omega (arith, c.if-address-gt-MAX_ADDRESS.false)) c.if-value-eq0.false c.if-address-least.true
