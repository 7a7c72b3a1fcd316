use Rattle.std.proofs.Common.{suc, ◌<◌}
use Rattle.tso_cert.specs.declared.rules.InferredRule.TheVariants.{SwapBefore}
use Rattle.chain_reach.specs.Groups.{group_of}
use Rattle.chain_rules.specs.Internal.Lowering.{LowersFor}
use Rattle.chain_rules.proofs.rules.lower_swap_before.Given as goal

abbrev pub invariant-loop-d : goal.invariant-loop-d
invariant-loop-d l = LowersFor l.input.trace.now l.input.reach.now SwapBefore (λ k v. group_of l.input.reach.now.chains (suc k) < l.d) l.u l.initial.least l.least
