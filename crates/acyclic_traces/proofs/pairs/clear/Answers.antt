use Rattle.std.proofs.Common.{◌∙◌, inl, inr, set, subst, arith}
use Rattle.std.proofs.lemmas.Bool.{cases_eq, cases_lt}
use Rattle.std.proofs.lemmas.List.{length-set, get_or-set_same, get_or-set_other}
use Rattle.bitsets.specs.Rows.{HasBit}
use Rattle.bitsets.proofs.WordFacts.{HasBit-zero}
use Rattle.acyclic_traces.specs.Internal.Pairs.{HasPair}
use Rattle.acyclic_traces.proofs.PairFacts.{none_past}
use Rattle.acyclic_traces.proofs.pairs.clear.Goals as goal

pub loop-u-preserved : goal.loop-u-preserved
loop-u-preserved c = (
  length-set c.loop-u.rows c.loop-u.u 0 ∙ c.loop-u.invariant.0,
  λ u v low has. elim (cases_eq u c.loop-u.u) [
    | inl same ↦ HasBit-zero v (subst (λ w. HasBit w v) (get_or-set_same c.loop-u.rows c.loop-u.u 0 0 (omega (arith, c.loop-u.invariant.0, c.loop-u-test.true))) (subst (λ n. HasPair (set c.loop-u.rows c.loop-u.u 0) n v) same has))
    | inr other ↦ c.loop-u.invariant.1 u v (omega (arith, low, other)) (subst (λ w. HasBit w v) (get_or-set_other c.loop-u.rows c.loop-u.u u 0 0 other) has)
  ],
)

pub returns-clause-empty : goal.returns-clause-empty
returns-clause-empty c = λ u v has. elim (cases_lt u c.loop-u.u) [
  | inl low ↦ c.loop-u.invariant.1 u v low has
  | inr past ↦ none_past c.loop-u.rows u v (omega (arith, past, c.loop-u-test.false, c.loop-u.invariant.0)) has
]
