use Rattle.std.proofs.Common.{Ok, Err}
use Rattle.std.proofs.lemmas.Result.{err_from_is_err_and}
use Rattle.issue_desk.specs.Desks.{DeskValue}
use Rattle.issue_desk.specs.Finishing.{IsWhole}
use Rattle.issue_desk.proofs.FinishFacts.{compared-steps, finishes-refused, finishes-torn, finishes-whole, whole-ops}
use Rattle.issue_desk.proofs.desks.Desk.finish.Goals as goal

pub returns-in-Err : goal.returns-in-Err
returns-in-Err g c =
    rw (← c.self.view_is) (finishes-torn (record { program = c.self.inside.program; unit = g.U.MemoryUnit.value_of c.self.inside.unit }) c.args.program.now c.args.passes.now c.of_steps.result
    c.in-Err.fault c.steps-in-Err.result.now c.steps-in-Err.ensures.are c.of_steps.ensures
    (compared-steps (Err c.in-Err.fault) c.self.inside.program c.args.program.now c.steps.result.now _ c.args.passes.now c.steps.ensures.are c.in-Err.ensures))

pub conclude_over-requires-clause-ops : goal.conclude_over-requires-clause-ops
conclude_over-requires-clause-ops g c =
    whole-ops (record { program = c.self.inside.program; unit = g.U.MemoryUnit.value_of c.self.inside.unit }) c.args.program.now c.args.passes.now c.self.invariant.0.begun c.requires
    (compared-steps (Ok tt) c.self.inside.program c.args.program.now c.steps.result.now _ c.args.passes.now c.steps.ensures.are c.in_default.ensures)

pub returns-in_err-conclude_over : goal.returns-in_err-conclude_over
returns-in_err-conclude_over g c =
    let p = err_from_is_err_and c.from_residual.result c.from_residual.ensures.1 in
    rw (← c.self.view_is, p.1, p.2) (finishes-refused (record { program = c.self.inside.program; unit = g.U.MemoryUnit.value_of c.self.inside.unit }) c.args.program.now c.args.passes.now
    c.conclude_over.new.account c.in_err-conclude_over.field-0.0 (compared-steps (Ok tt) c.self.inside.program c.args.program.now c.steps.result.now _ c.args.passes.now c.steps.ensures.are
    c.in_default.ensures) c.in_err-conclude_over.ensures)

pub returns : goal.returns
returns g c =
    let desk : DeskValue = record { program = c.self.inside.program; unit = g.U.MemoryUnit.value_of c.self.inside.unit } in
    let all : IsWhole desk c.args.program.now c.args.passes.now = compared-steps (Ok tt) c.self.inside.program c.args.program.now c.steps.result.now _ c.args.passes.now c.steps.ensures.are
    c.in_default.ensures in
    rw (← c.self.view_is) (finishes-whole desk c.args.program.now c.args.passes.now c.conclude_over.new.account c.in_ok-conclude_over.field-0
    (whole-ops desk c.args.program.now c.args.passes.now c.self.invariant.0.begun c.requires all) all c.in_ok-conclude_over.ensures)
