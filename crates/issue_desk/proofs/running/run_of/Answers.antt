use Rattle.std.proofs.Common.{◌≡◌, ◌∙◌, sym, ap, subst, ◌&&◌}
use Rattle.std.specs.Cmp.{booleans_Decides}
use Rattle.unit_core.specs.Records.{is_within}
use Rattle.unit_core.specs.Units.{UnitValue}
use Rattle.issue_desk.specs.Internal.Passes.{ArePassesFrom}
use Rattle.issue_desk.proofs.RunFacts.{all-passes}
use Rattle.issue_desk.proofs.running.run_of.Goals as goal

pub finish-requires : goal.finish-requires
finish-requires g c =
    all-passes c.args.program.now c.deref.result.now c.processors.result c.processors.ensures.count
    (subst (ArePassesFrom 0 c.processors.result) (sym c.deref.ensures.value) c.in-Ok.ensures)

pub returns-then-lawful : goal.returns-then-lawful
returns-then-lawful g c =
    let unit : UnitValue = g.U.MemoryUnit.value_of c.args.unit in
    let answered : c.in_ok-record.record.lawful ≡ c.lawful.result = sym c.lawful.ensures.is in
    let same : c.lawful.result ≡ c.is_lawful_under-lawful.result = (booleans_Decides c.lawful.result c.is_lawful_under-lawful.result).0 c.if-lawful.true in
    let entry : c.is_lawful_under-lawful.result ≡ unit.lawful && is_within unit.order c.args.program.now.setting.order =
    c.is_lawful_under-lawful.ensures ∙ ap (λ order. unit.lawful && is_within unit.order order) c.order.ensures in
    let design : c.in_ok-record.record.design ≡ unit.design =
    c.in_ok-record.ensures.answered.1.design ∙ c.in_ok-record.ensures.drained.kept.design ∙ c.into_desk-desk.ensures.design ∙ sym c.requires.design in
    record {
      closed = c.finish.ensures.closed.closed;
      recorded = record { design = design; ops = c.in_ok-record.ensures.answered.1.ops; lawful = answered ∙ same ∙ entry; kept = c.lawful.ensures.kept };
      counted = c.in_ok-record.ensures.counted;
    }
