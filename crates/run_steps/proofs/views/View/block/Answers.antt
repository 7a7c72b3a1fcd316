use Rattle.std.proofs.Common.{◌∙◌, ◌≤◌, ◌+◌, ◌%◌, ap, arith}
use Rattle.std.proofs.lemmas.Option.{IfSome_then}
use Rattle.run_steps.specs.Places.{cell_count}
use Rattle.run_steps.specs.Reads.{memory_of_cells, seen_in}
use Rattle.run_steps.proofs.ReadFacts.{sees_memory}
use Rattle.run_steps.proofs.views.View.block.Goals as goal

pub returns-clause-seen : goal.returns-clause-seen
returns-clause-seen c =
    let place = c.args.place in
    let view = c.args.self.now in
    let within : place.address % 8 + cell_count place ≤ 8 = omega (arith, c.cells.ensures, c.if-place-cells-gt8.false) in
    IfSome_then c.block.result c.block.ensures
    (λ block holds i less. sees_memory (memory_of_cells view.memory.now) view.waiting.now place i less c.requires ∙ ap seen_in (holds i (omega (arith, within, less))))
