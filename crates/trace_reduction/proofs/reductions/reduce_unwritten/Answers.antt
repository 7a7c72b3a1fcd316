use Rattle.std.proofs.Common.{◌∙◌, ap}
use Rattle.log_selections.specs.Unwritten.{lone_load}
use Rattle.trace_reduction.proofs.ReductionFacts.{lone_text}
use Rattle.trace_reduction.proofs.reductions.reduce_unwritten.Goals as goal

pub returns : goal.returns
returns c = lone_text c.args.trace.now c.in_ok-small.small c.args.load c.tell.result c.requires (c.in_ok-small.ensures ∙ ap lone_load c.order.ensures) c.tell.ensures.text c.tell.ensures.verdict
