use Rattle.std.proofs.Common.{◌∙◌, suc, length, ap, arith}
use Rattle.tso_report.proofs.campaigns.workers.send_jobs.Goals as goal

-- one job less is left
pub loop-unit-preserved : goal.loop-unit-preserved
loop-unit-preserved g c =
    let parts = c.in-Some.ensures.steps.0 in
    let before = c.loop-unit.invariant in
    let count = ap length parts in (
      tt,
      tt,
      omega (arith, before.2, count),
      omega (arith, before.3, count),
      λ k d within. (rw parts at before.4) (suc k) d (omega (arith, within)),
      λ i inside.
          (rw parts at before.5) (suc i) (omega (arith, inside)) ∙ ap g.S.SeedUnits.unit_of (omega arith),
    )

-- the next unit is that of the next seed
pub job_of-requires-clause-is : goal.job_of-requires-clause-is
job_of-requires-clause-is g c = (rw c.in-Some.ensures.steps.0 at c.loop-unit.invariant.5) 0 (omega arith) ∙ ap g.S.SeedUnits.unit_of (omega arith)
