use Rattle.std.proofs.Common.{◌∙◌, length, refl}
use Rattle.unit_core.specs.Records.{AreOpsOf, EmptiesBelow}
use Rattle.unit_core.specs.Schedule.{BelongsTo}
use Rattle.unit_core.specs.Units.{IsUnit}
use Rattle.unit_core.proofs.BelongFacts.{belongs}
use Rattle.unit_core.proofs.OutcomeFacts.{AreOpsOf-drained}
use Rattle.unit_core.proofs.RecordFacts.{holds_ok, when_both_ok}
use Rattle.unit_core.proofs.ReplayFacts.{HasIssued-drained, first_ops}
use Rattle.unit_core.proofs.replays.issue_and_record.Goals as goal

pub returns-clause-belongs : goal.returns-clause-belongs
returns-clause-belongs g c lawful =
    let program = c.args.program.now in
    let u0 = g.U.MemoryUnit.value_of c.preset_all.new.unit in
    let u1 = g.U.MemoryUnit.value_of c.follow_all.new.unit in
    let u2 = g.U.MemoryUnit.value_of c.issue_all.new.unit in
    let new = g.U.MemoryUnit.value_of c.drain_and_record.new.unit in
    let drains = c.drain_and_record.ensures.drained in
    let first = c.in_ok-follow_all.ensures.follows in
    let second = c.in_ok-issue_all.ensures.follows in
    let ops : AreOpsOf program new.steps = rw drains.steps (AreOpsOf-drained program 0 (length program.lists) u2.steps drains.drained drains.drains c.in_ok-issue_all.ensures.ops) in
    let still = drains.kept.lawful ∙ second.kept.lawful ∙ first.kept.lawful ∙ c.preset_all.ensures.others.lawful ∙ lawful in
    when_both_ok c.drain_and_record.result (EmptiesBelow new (length program.lists)) (IsUnit new) (BelongsTo new.first program.lists c.args.schedule.now new.steps)
    c.drain_and_record.ensures.empty c.drain_and_record.ensures.unit
    (λ empty kept. belongs program c.args.schedule.now _ c.follow_all.new.issued c.issue_all.new.issued u0 u1 u2 new refl (c.preset_all.ensures.others.steps ∙ c.requires) first second
    drains kept empty ops still)

pub returns-clause-ops : goal.returns-clause-ops
returns-clause-ops g c =
    let program = c.args.program.now in
    let new = g.U.MemoryUnit.value_of c.drain_and_record.new.unit in
    let drains = c.drain_and_record.ensures.drained in
    holds_ok c.drain_and_record.result (AreOpsOf program new.steps)
    (rw drains.steps (AreOpsOf-drained program 0 (length program.lists) (g.U.MemoryUnit.value_of c.issue_all.new.unit).steps drains.drained drains.drains
    c.in_ok-issue_all.ensures.ops))

pub returns-in_err-follow_all-clause-begun : goal.returns-in_err-follow_all-clause-begun
returns-in_err-follow_all-clause-begun g c =
    first_ops c.args.program.now c.follow_all.new.issued (g.U.MemoryUnit.value_of c.follow_all.new.unit) c.follow_all.ensures.issued

pub returns-in_err-issue_all-clause-begun : goal.returns-in_err-issue_all-clause-begun
returns-in_err-issue_all-clause-begun g c =
    first_ops c.args.program.now c.issue_all.new.issued (g.U.MemoryUnit.value_of c.issue_all.new.unit) c.issue_all.ensures.issued

pub returns-clause-begun : goal.returns-clause-begun
returns-clause-begun g c =
    let program = c.args.program.now in
    let issued = c.issue_all.new.issued in
    let new = g.U.MemoryUnit.value_of c.drain_and_record.new.unit in
    first_ops program issued new
    (HasIssued-drained program issued 0 (length program.lists) (g.U.MemoryUnit.value_of c.issue_all.new.unit) new c.drain_and_record.ensures.drained c.issue_all.ensures.issued)
