use Rattle.std.proofs.Common.{inl, inr, arith}
use Rattle.acyclic_traces.proofs.PairFacts.{covered, some_bit}
use Rattle.acyclic_traces.proofs.pairs.Pairs.add_before.Goals as goal

pub returns-clause-has : goal.returns-clause-has
returns-clause-has c = λ nothing u bit. elim (c.join.ensures.none nothing) [
  | inl none ↦ (c.earlier.ensures u).0 (covered c.args.numbers c.earlier.result u (omega arith) (omega arith) none bit)
  | inr none ↦ absurd (some_bit c.args.to c.requires none)
]
