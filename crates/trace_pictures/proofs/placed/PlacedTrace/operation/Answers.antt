use Rattle.std.proofs.Common.{◌∙◌, ap, arith, length, sym}
use Rattle.trace_pictures.proofs.WantedFacts.{operation-near}
use Rattle.trace_pictures.proofs.placed.PlacedTrace.operation.Goals as goal

pub returns-clause-near : goal.returns-clause-near
returns-clause-near c o is =
    let vec = c.self.inside.operations.operations in
    let near = operation-near _ c.args.n o (sym (c.operation_of.ensures _ c.self.invariant) ∙ is) in
    omega (arith, vec.small, vec.ok, near, ap length c.self.invariant)
