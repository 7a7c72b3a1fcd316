use Rattle.tso_cert.specs.declared.rules.InferredRule.TheVariants.{StorePast}
use Rattle.chain_rules.proofs.LoopFacts.{IsBelow}
use Rattle.chain_rules.specs.Internal.Lowering.{LowersFor}
use Rattle.chain_rules.proofs.rules.lower_store_past.Given as goal

abbrev pub invariant-loop-p : goal.invariant-loop-p
invariant-loop-p l = LowersFor l.input.trace.now l.input.reach.now StorePast (λ k v. IsBelow l.input.trace.now l.p v) l.u l.initial.least l.least
