use Rattle.program_chains.specs.LogEvents.{as_trace_event}
use Rattle.log_order_check.proofs.BoundFacts.{bounds_pso, bounds_tso}
use Rattle.std.proofs.Common.{◌∙◌}
use Rattle.log_order_check.proofs.faults.bounds_of.Goals as goal

pub returns-in-Tso : goal.returns-in-Tso
returns-in-Tso c = λ t places x event model at before after stbars barriers own.
    bounds_tso t x (as_trace_event event) at places c.args.before c.args.after c.args.own before after stbars barriers (model ∙ c.in-Tso.is)

pub returns-in-Pso : goal.returns-in-Pso
returns-in-Pso c = λ t places x event model at before after stbars barriers own.
    bounds_pso t x (as_trace_event event) at places c.args.before c.args.after c.args.own before after stbars barriers (model ∙ c.in-Pso.is) own
