use Rattle.std.proofs.Common.{◌∙◌, ap, map}
use Rattle.trace_explanation.specs.CycleShapes.{name_of}
use Rattle.trace_explanation.specs.Internal.Tables.{row_of}
use Rattle.trace_explanation.proofs.cycle_names.name_of.Goals as goal

pub returns : goal.returns
returns c = c.name_among.ensures ∙ ap (λ cycles. name_of c.args.shape.now (map row_of cycles)) c.as_slice.ensures
