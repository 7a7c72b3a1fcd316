use Rattle.std.proofs.Common.{inl, inr, subst, arith}
use Rattle.bitsets.specs.Rows.{HasBit}
use Rattle.acyclic_traces.proofs.PairFacts.{covered, some_bit}
use Rattle.acyclic_traces.proofs.pairs.Pairs.add_after.Goals as goal

pub returns-clause-has : goal.returns-clause-has
returns-clause-has c = λ nothing v bit. elim (c.join.ensures.none nothing) [
  | inl none ↦ absurd (some_bit c.args.from c.requires none)
  | inr none ↦ subst (λ w. HasBit w v) c.later.ensures (covered c.args.numbers c.later.result v (omega arith) (omega arith) none bit)
]
