use Rattle.std.proofs.Common.{◌∙◌, ap}
use Rattle.tso_ops.specs.Values.{rows}
use Rattle.unit_core.specs.Machine.{lists_from}
use Rattle.unit_core.proofs.RecordFacts.{is_trace, record_of, is_recorded}
use Rattle.unit_core.proofs.records.record.Goals as goal

pub of_program-requires : goal.of_program-requires
of_program-requires g c =
    let unit = g.U.MemoryUnit.value_of c.args.unit.now in
    is_trace c.args.program.now unit.steps c.processors.result (rows c.in_ok-lists.lists.items) c.processors.ensures.count
    (c.in_ok-lists.ensures.are ∙ ap (lists_from 0 c.processors.result) c.steps.ensures.are) c.requires.ops c.processors.ensures.kept c.in_ok-lists.ensures.fits

pub returns-clause-is : goal.returns-clause-is
returns-clause-is g c =
    record_of c.args.program.now (g.U.MemoryUnit.value_of c.args.unit.now) c.processors.result (rows c.in_ok-lists.lists.items) _ c.requires.ops c.processors.ensures.count
    (c.in_ok-lists.ensures.are ∙ ap (lists_from 0 c.processors.result) c.steps.ensures.are) c.of.ensures c.in_ok-trace.ensures (c.in_ok-steps.ensures.items ∙ c.steps-2.ensures.are)
    (rw c.order.ensures at c.is_lawful_under-lawful.ensures)

pub returns-clause-kept : goal.returns-clause-kept
returns-clause-kept g c =
    is_recorded c.args.program.now (g.U.MemoryUnit.value_of c.args.unit.now) _ c.requires.ops c.requires.first c.requires.empty c.steps.ensures.kept (returns-clause-is g c)

pub invariant_of-result : goal.invariant_of-result
invariant_of-result g c =
    is_recorded c.args.program.now (g.U.MemoryUnit.value_of c.args.unit.now) _ c.requires.ops c.requires.first c.requires.empty c.steps.ensures.kept (returns-clause-is g c)
