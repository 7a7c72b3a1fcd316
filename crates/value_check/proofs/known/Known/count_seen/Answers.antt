use Rattle.std.proofs.Common.{◌+◌, ◌-◌, ◌/◌, inl, inr, sym, subst, suc, slice_index, arith}
use Rattle.std.proofs.lemmas.Bool.{cases_eq}
use Rattle.value_evidence.specs.Candidates.{SeesStore}
use Rattle.value_check.proofs.AnswerFacts.{not_so}
use Rattle.value_check.proofs.known.Known.count_seen.Goals as goal

pub loop-low-preserved-then-sees : goal.loop-low-preserved-then-sees
loop-low-preserved-then-sees c =
    let middle = c.loop-low.low + (c.loop-low.high - c.loop-low.low) / 2 in (
      omega arith,
      c.loop-low.invariant.1,
      λ t steps known first. (
        λ k below.
            let here = (c.sees.ensures t steps known).0 c.if-sees.true in
            elim (cases_eq k middle) [
              | inl same ↦ subst (λ n. SeesStore t steps (suc c.args.load) (suc (slice_index c.args.stores.now n))) (sym same) here
              | inr other ↦ first k middle (omega (arith, other, below)) (omega (arith, c.loop-low.invariant.1)) here
            ],
        (c.loop-low.invariant.2 t steps known first).1,
      ),
    )

pub loop-low-preserved : goal.loop-low-preserved
loop-low-preserved c =
    let middle = c.loop-low.low + (c.loop-low.high - c.loop-low.low) / 2 in (
      omega arith,
      omega (arith, c.loop-low.invariant.1),
      λ t steps known first. (
        (c.loop-low.invariant.2 t steps known first).0,
        λ k from within sees.
            let none = not_so c.sees.result (SeesStore t steps (suc c.args.load) (suc (slice_index c.args.stores.now middle))) (c.sees.ensures t steps known) c.if-sees.false in
            elim (cases_eq k middle) [
              | inl same ↦ none (subst (λ n. SeesStore t steps (suc c.args.load) (suc (slice_index c.args.stores.now n))) same sees)
              | inr other ↦ none (first middle k (omega (arith, other, from)) within sees)
            ],
      ),
    )

pub returns-clause-cut : goal.returns-clause-cut
returns-clause-cut c = λ t steps known first.
    let both = c.loop-low.invariant.2 t steps known first in record {
      within = omega (arith, c.loop-low.invariant.0, c.loop-low.invariant.1);
      below = both.0;
      from = λ k from within. both.1 k (omega (arith, from)) within;
    }
