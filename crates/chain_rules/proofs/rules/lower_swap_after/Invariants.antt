use Rattle.std.proofs.Common.{suc, ◌<◌}
use Rattle.tso_cert.specs.declared.rules.InferredRule.TheVariants.{SwapAfter}
use Rattle.chain_reach.specs.Groups.{group_of}
use Rattle.chain_rules.specs.Internal.Lowering.{LowersFor}
use Rattle.chain_rules.proofs.rules.lower_swap_after.Given as goal

abbrev pub invariant-loop-d : goal.invariant-loop-d
invariant-loop-d l = LowersFor l.input.trace.now l.input.reach.now SwapAfter (λ k v. group_of l.input.reach.now.chains v < l.d) (suc l.l) l.initial.least l.least
