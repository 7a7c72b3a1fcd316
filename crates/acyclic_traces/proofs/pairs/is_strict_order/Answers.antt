use Rattle.std.proofs.Common.{◌≤◌, inl, inr, length, sym, subst, arith}
use Rattle.std.proofs.lemmas.Bool.{cases_eq, cases_lt}
use Rattle.acyclic_traces.specs.Internal.Rows.{IsCoveredRow}
use Rattle.acyclic_traces.proofs.PairFacts.{none_past, covered_strict}
use Rattle.acyclic_traces.proofs.pairs.is_strict_order.Goals as goal

pub loop-u-preserved : goal.loop-u-preserved
loop-u-preserved c = λ u low. elim (cases_eq u c.loop-u.u) [
  | inl same ↦ subst (IsCoveredRow c.args.rows.now) (sym same) (c.is_strict_row.ensures c.if-not-is_strict_row.false)
  | inr other ↦ c.loop-u.invariant u (omega (arith, low, other))
]

pub returns : goal.returns
returns c = λ shown. covered_strict c.args.rows.now (λ u. elim (cases_lt u c.loop-u.u) [
  | inl low ↦ c.loop-u.invariant u low
  | inr past ↦ (let after : length c.args.rows.now ≤ u = omega (arith, past, c.loop-u-test.false, c.requires) in
      record {
        irreflexive = λ self. none_past c.args.rows.now u u after self;
        covered = λ v has. absurd (none_past c.args.rows.now u v after has);
      })
])
