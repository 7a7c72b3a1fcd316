use Rattle.std.proofs.Common.{◌∙◌, sym, subst, arith, All}
use Rattle.tso_ops.specs.Values.{ops_at}
use Rattle.unit_core.specs.Issues.{IsIssuable}
use Rattle.unit_core.specs.Machine.{IsFirstMemory}
use Rattle.unit_core.proofs.IssueFacts.{ops-issuable}
use Rattle.units_for_tests.specs.Issues.{Issues}
use Rattle.units_for_tests.proofs.IssuingFacts.{AreOpsOf-all, IssuesBelow-next, IssuesBelow-none}
use Rattle.units_for_tests.proofs.issuing.issue_program.Goals as goal

pub issue_list-requires-clause-issuable : goal.issue_list-requires-clause-issuable
issue_list-requires-clause-issuable g c = subst (All IsIssuable) (sym c.ops.ensures) (ops-issuable c.args.program.now c.loop-p.p c.processors-p-end.ensures.kept)

pub loop-p-preserved : goal.loop-p-preserved
loop-p-preserved g c =
    let old = g.U.MemoryUnit.value_of c.loop-p.unit in
    let new = g.U.MemoryUnit.value_of c.issue_list.new.unit in
    let p = c.loop-p.p in
    let issues : Issues old new p (ops_at c.args.program.now p) = subst (Issues old new p) c.ops.ensures c.in_ok-issue_list.ensures in
    record {
      below = IssuesBelow-next c.args.program.now old new p c.loop-p.invariant.below issues;
      first = subst (IsFirstMemory c.args.program.now.setting.first) (sym issues.kept.first) c.loop-p.invariant.first;
      lawful = issues.kept.lawful ∙ c.loop-p.invariant.lawful;
      order = issues.kept.order ∙ c.loop-p.invariant.order;
    }

pub loop-p-init : goal.loop-p-init
loop-p-init g c =
    let new = g.U.MemoryUnit.value_of c.preset_all.new.unit in
    record {
      below = IssuesBelow-none c.args.program.now new (c.preset_all.ensures.others.steps ∙ c.requires);
      first = c.preset_all.ensures.first;
      lawful = c.preset_all.ensures.others.lawful;
      order = c.preset_all.ensures.others.order;
    }

pub returns-clause-ops : goal.returns-clause-ops
returns-clause-ops g c =
    AreOpsOf-all c.args.program.now (g.U.MemoryUnit.value_of c.loop-p.unit) c.loop-p.p (omega (arith, c.processors-p-end.ensures.count)) c.loop-p.invariant.below
