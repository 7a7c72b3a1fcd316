use Rattle.std.proofs.Common.{◌<◌, inl, inr, sym, subst, arith}
use Rattle.std.proofs.lemmas.Bool.{cases_eq, cases_lt}
use Rattle.bitsets.specs.Rows.{HasBit}
use Rattle.acyclic_traces.specs.Internal.Pairs.{HasPair}
use Rattle.acyclic_traces.proofs.PairFacts.{none_past, own_bit, own_bit_only}
use Rattle.acyclic_traces.proofs.pairs.transpose.Goals as goal

pub loop-u-init : goal.loop-u-init
loop-u-init c = (c.clear.ensures.sized, λ v u. (λ has. absurd (c.clear.ensures.empty v u has), λ given. absurd (let low = given.0 in omega (arith, low))))

pub loop-u-preserved : goal.loop-u-preserved
loop-u-preserved c = (
  c.add_product.ensures.sized,
  λ v u.
      let was = c.loop-u.invariant.1 v u in
      let pairs = c.add_product.ensures.pairs v u in
      let low : c.loop-u.u < 64 = omega (arith, c.loop-u-test.true) in (
        λ has. elim (pairs.0 has) [
          | inl had ↦ (let before = was.0 had in (omega (arith, before.0), before.1))
          | inr given ↦ (let same = own_bit_only c.loop-u.u u low given.1 in (omega (arith, same), subst (λ n. HasPair c.args.rows.now n v) (sym same) given.0))
        ],
        λ given. pairs.1 (elim (cases_eq u c.loop-u.u) [
          | inl same ↦ inr (subst (λ n. HasPair c.args.rows.now n v) same given.1, subst (HasBit _) (sym same) (own_bit c.loop-u.u low))
          | inr other ↦ inl (was.1 (omega (arith, given.0, other), given.1))
        ]),
      ),
)

pub returns-clause-transposed : goal.returns-clause-transposed
returns-clause-transposed c = λ u v. (
  λ has. (c.loop-u.invariant.1 v u).1 (
    elim (cases_lt u c.loop-u.u) [
      | inl low ↦ low
      | inr past ↦ absurd (none_past c.args.rows.now u v (omega (arith, past, c.loop-u-test.false, c.requires.rows)) has)
    ],
    has,
  ),
  λ has. ((c.loop-u.invariant.1 v u).0 has).1,
)
