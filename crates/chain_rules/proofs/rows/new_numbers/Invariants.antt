use Rattle.chain_rules.specs.Internal.Lowering.{AreLeft}
use Rattle.chain_rules.proofs.rows.new_numbers.Given as goal

abbrev pub invariant-loop-d : goal.invariant-loop-d
invariant-loop-d l = AreLeft l.reach l.u l.least l.d l.row.items
