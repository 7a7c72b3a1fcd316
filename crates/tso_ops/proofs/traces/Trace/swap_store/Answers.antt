use Rattle.std.proofs.Common.{arith}
use Rattle.tso_ops.proofs.SwapFacts.{IsSwapLoad-within}
use Rattle.tso_ops.proofs.traces.Trace.swap_store.Goals as goal

-- the store of a swap's load is an event too
pub returns-in_default : goal.returns-in_default
returns-in_default c = λ swap. let within = IsSwapLoad-within c.args.self.now c.args.l swap in omega arith
