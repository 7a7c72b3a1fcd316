use Rattle.std.proofs.Common.{◌≡◌, inl, inr, get_or, subst, sym, arith}
use Rattle.std.specs.Int.{bit_not, w64}
use Rattle.std.specs.Prelude.{bit_and}
use Rattle.std.proofs.lemmas.Bool.{cases_eq, cases_lt}
use Rattle.acyclic_traces.specs.Internal.Pairs.{HasPair}
use Rattle.acyclic_traces.proofs.PairFacts.{covered, none_past}
use Rattle.acyclic_traces.proofs.pairs.has_all.Goals as goal

pub loop-u-preserved : goal.loop-u-preserved
loop-u-preserved c = λ u v low has. elim (cases_eq u c.loop-u.u) [
  | inl same ↦ (let here = subst (λ x. HasPair c.args.others.now x v) same has in
      let row = get_or c.args.rows.now c.loop-u.u 0 in
      let other = get_or c.args.others.now c.loop-u.u 0 in
      let none : bit_and other (bit_not w64 row) ≡ 0 = omega (arith, c.if-others-u-ne0.false) in
      subst (λ x. HasPair c.args.rows.now x v) (sym same) (covered other row v (omega (arith, c.type_inv.others c.loop-u.u)) (omega (arith, c.type_inv.rows c.loop-u.u)) none here))
  | inr other ↦ c.loop-u.invariant u v (omega (arith, low, other)) has
]

pub returns : goal.returns
returns c = λ shown u v has. elim (cases_lt u c.loop-u.u) [
  | inl low ↦ c.loop-u.invariant u v low has
  | inr past ↦ absurd (none_past c.args.others.now u v (omega (arith, past, c.loop-u-test.false, c.requires.others)) has)
]
